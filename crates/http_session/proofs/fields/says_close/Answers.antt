use Rattle.std.proofs.Common.{ℕ, eqb, rules}
use Rattle.std.proofs.lemmas.Iterator.Search.{any_from_yields_List}
use Rattle.std.proofs.lemmas.Iterator.Splits.{YieldsList-from_slice_split}
use Rattle.std.specs.Str.{str_eq_ignore_ascii_case}
use Rattle.std.specs.Prelude.{codes, List}
use Rattle.httparse.specs.Grammar.{trim_ows}
use Rattle.http_session.proofs.fields.says_close.Goals as goal

pub returns : goal.returns
returns c =
    let test = λ (part : List ℕ). str_eq_ignore_ascii_case (trim_ows part) (codes "close") in
    any_from_yields_List test _ _ _ c.any.ensures.ran
    (YieldsList-from_slice_split _ (λ (b : ℕ). eqb b 44) c.args.value.now c.split.ensures.rest c.split.ensures.done c.split.ensures.closure (search rules))
    (search rules)
