use Rattle.std.proofs.Common.{◌≡◌, ◌∙◌, true, false, sym}
use Rattle.object_writer.proofs.Parts.{bare, bare_parts}
use Rattle.object_writer.proofs.templates.is_bare.Goals as goal
use Rattle.object_writer.proofs.templates.is_bare.Goals.{then-is_empty, else-is_empty}

never : {A : Type 0} → true ≡ false → A
never e = absurd cc

pub returns-then-is_empty-2 : goal.returns-then-is_empty-2
returns-then-is_empty-2 c =
    let t = c.args.template.now in
    elim c.if-is_empty.branch [
      | then-is_empty w ↦ (
        λ n. bare t (c.is_empty.ensures.0 w.if-is_empty.true) (w.is_empty-then-is_empty.ensures.0 (sym w.value-is ∙ c.if-is_empty-2.true)) (c.is_empty-then-is_empty-2.ensures.0 n),
        λ e. c.is_empty-then-is_empty-2.ensures.1 (bare_parts t e).2,
      )
      | else-is_empty w ↦ never (sym c.if-is_empty-2.true ∙ w.value-is ∙ w.if-is_empty.false)
    ]

pub returns-else-is_empty-2 : goal.returns-else-is_empty-2
returns-else-is_empty-2 c =
    let t = c.args.template.now in
    elim c.if-is_empty.branch [
      | then-is_empty w ↦ (λ v. never (sym v ∙ c.if-is_empty-2.false), λ e. w.value-is ∙ w.is_empty-then-is_empty.ensures.1 (bare_parts t e).1)
      | else-is_empty w ↦ (λ v. never (sym v ∙ c.if-is_empty-2.false), λ e. never (sym (c.is_empty.ensures.1 (bare_parts t e).0) ∙ w.if-is_empty.false))
    ]
