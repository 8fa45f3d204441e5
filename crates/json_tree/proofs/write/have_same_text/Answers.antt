use Rattle.json_tree.proofs.RoundTrip.{same_texts}
use Rattle.json_tree.proofs.write.have_same_text.Goals as goal

pub returns-clause-value : goal.returns-clause-value
returns-clause-value c =
    let one = c.in_ok-one_text in
    let two = c.in_ok-two_text in
    same_texts c.eq.result c.args.one.now c.args.two.now one.one_text.items two.two_text.items c.eq.ensures one.ensures.text two.ensures.text one.ensures.reads_back two.ensures.reads_back
