use Rattle.std.proofs.Common.{◌∙◌, ap, arith, drop, length, length-take, length-drop, ◌-◌}
use Rattle.http_session.proofs.WindowLemmas.{slice_dropped}
use Rattle.http_session.proofs.window.Window.drop_front.Goals as goal

pub returns : goal.returns
returns c =
    slice_dropped c.self.inside.bytes.items c.self.inside.start c.self.inside.end c.args.count
    (omega (arith, c.requires, ap length c.self.view_is, length-take (c.self.inside.end - c.self.inside.start) (drop c.self.inside.start c.self.inside.bytes.items), length-drop c.self.inside.start c.self.inside.bytes.items))
    ∙ ap (drop c.args.count) c.self.view_is
