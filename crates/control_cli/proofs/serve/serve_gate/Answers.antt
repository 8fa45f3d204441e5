use Rattle.control_cli.proofs.Commands.{serve_runs}
use Rattle.control_cli.proofs.serve.serve_gate.Goals as goal

pub returns-clause-leaves : goal.returns-clause-leaves
returns-clause-leaves g c =
    serve_runs c.args.words c.serve_options.result _ _ _ _ c.serve.result c.status_of_serve.result c.serve_options.ensures c.status_of_serve.ensures.value c.serve.ensures.leaves
