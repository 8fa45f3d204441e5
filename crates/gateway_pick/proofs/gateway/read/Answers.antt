use Rattle.gateway_pick.proofs.Readable.{refused_json}
use Rattle.gateway_pick.proofs.gateway.read.Goals as goal

pub returns-in-Err : goal.returns-in-Err
returns-in-Err c = record {
  json = tt;
  refused = refused_json c.args.body.now c.in-Err.error c.unread.result c.unread.ensures c.in-Err.ensures.refusal;
}
