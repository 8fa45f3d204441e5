use Rattle.std.proofs.Common.{◌∙◌, sym, ap, get_or, remove, position, ℕ, List}
use Rattle.json_tree.specs.Tree.{data_of, table_data}
use Rattle.json_tree.proofs.Laws.{data_of-Null}
use Rattle.json_tree.specs.declared.value.Json.{Json}
use Rattle.merge_patch.proofs.Tables.{names_it, taken, absent, value_of_some, value_of_none}
use Rattle.merge_patch.proofs.taken.take.Goals as goal

pub returns-in-Some-clause-rest : goal.returns-in-Some-clause-rest
returns-in-Some-clause-rest c =
    let is = taken c.args.name.now c.args.members.entries c.in-Some.place c.remove-entry.result (c.in-Some.ensures ∙ ap (λ (es : List (List ℕ × Json)). position (names_it c.args.name.now) es) c.entries.ensures) in
    ap table_data (c.from_vec.ensures ∙ c.remove-entry.ensures.items ∙ ap (λ (es : List (List ℕ × Json)). remove es c.in-Some.place) c.into_vec-entries.ensures) ∙ is.rest

pub returns-in-Some-clause-value : goal.returns-in-Some-clause-value
returns-in-Some-clause-value c =
    let is = taken c.args.name.now c.args.members.entries c.in-Some.place c.remove-entry.result (c.in-Some.ensures ∙ ap (λ (es : List (List ℕ × Json)). position (names_it c.args.name.now) es) c.entries.ensures) in
    let entry = c.remove-entry.ensures.value ∙ ap (λ (es : List (List ℕ × Json)). get_or es c.in-Some.place c.remove-entry.result) c.into_vec-entries.ensures in
    ap (λ (e : List ℕ × Json). data_of e.1) entry ∙ sym (value_of_some c.args.name.now c.args.members.entries (get_or c.args.members.entries c.in-Some.place c.remove-entry.result).1 is.value)

pub returns-in-None-clause-rest : goal.returns-in-None-clause-rest
returns-in-None-clause-rest c =
    sym (absent c.args.name.now c.args.members.entries (c.in-None.ensures ∙ ap (λ (es : List (List ℕ × Json)). position (names_it c.args.name.now) es) c.entries.ensures)).rest

pub returns-in-None-clause-value : goal.returns-in-None-clause-value
returns-in-None-clause-value c =
    let is = absent c.args.name.now c.args.members.entries (c.in-None.ensures ∙ ap (λ (es : List (List ℕ × Json)). position (names_it c.args.name.now) es) c.entries.ensures) in
    data_of-Null ∙ sym (value_of_none c.args.name.now c.args.members.entries is.value)
