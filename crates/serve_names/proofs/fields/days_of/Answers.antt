use Rattle.std.proofs.Common.{rules, ◌≡◌, ◌∙◌, pos, arith, to_z, of_z, w32, nat_abs, sym, ap, ℤ, negsuc, false, refl, true≢false}
use Rattle.std.specs.Prelude.{int_lt}
use Rattle.jiff.proofs.SpanFacts.{signed_arith}
use Rattle.jiff.specs.Words.{epoch_day, IsYmd}
use Rattle.jiff_core.proofs.DateLemmas.{epoch_day_range}
use Rattle.serve_names.proofs.fields.days_of.Goals as goal

not_less : (z : ℤ) → int_lt z (pos 0) ≡ false → z ≡ pos (nat_abs z)
not_less (pos n) e = refl
not_less (negsuc n) e = absurd (true≢false e)

pub returns-else-day-lt0-clause-found : goal.returns-else-day-lt0-clause-found
returns-else-day-lt0-clause-found c =
    let ymd : IsYmd (pos c.args.fields.year) (pos c.args.fields.month) (pos c.args.fields.day) c.in-Ok.date = search rules in
    let day = c.to_unix_epoch_day-day.result in
    let same : to_z w32 (of_z w32 day) ≡ day = search rules in
    let is : epoch_day c.in-Ok.date ≡ day = search rules in
    let size : day ≡ pos (nat_abs day) = not_less day (ap (λ z. int_lt z (pos 0)) (sym same) ∙ c.if-day-lt0.false) in
    (c.in-Ok.date, (ymd, is ∙ size ∙ ap (λ z. pos (nat_abs z)) (sym same)))

pub returns-else-day-lt0-clause-bound : goal.returns-else-day-lt0-clause-bound
returns-else-day-lt0-clause-bound c =
    let day = c.to_unix_epoch_day-day.result in
    let same : to_z w32 (of_z w32 day) ≡ day = search rules in
    let is : epoch_day c.in-Ok.date ≡ day = search rules in
    let size : day ≡ pos (nat_abs day) = not_less day (ap (λ z. int_lt z (pos 0)) (sym same) ∙ c.if-day-lt0.false) in
    let range = epoch_day_range c.in-Ok.date in
    rw same (omega (arith, signed_arith))
