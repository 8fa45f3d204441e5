use Rattle.std.proofs.Common.{◌≡◌, ◌↔◌, ◌≤◌, true, sym, ap, subst, ◌∙◌}
use Rattle.std.specs.Prelude.{IfOk}
use Rattle.std.proofs.lemmas.Result.{IfOk-weaker}
use Rattle.serde_json.specs.Written.{compact_text}
use Rattle.json_tree.specs.Tree.{data_of, is_well_formed, depth_of}
use Rattle.json_tree.specs.declared.value.Json.{Json}
use Rattle.resource_codec.specs.Written.{written}
use Rattle.resource_codec.proofs.Again.{written_tells}
use Rattle.resource_codec.proofs.encoding.have_same_bytes.Goals as goal

pub have_same_text-requires-clause-one_well : goal.have_same_text-requires-clause-one_well
have_same_text-requires-clause-one_well c = subst (λ (j : Json). is_well_formed j ≡ true) (sym c.in_ok-one_json.ensures.written) c.requires.one_fits.well

pub have_same_text-requires-clause-two_well : goal.have_same_text-requires-clause-two_well
have_same_text-requires-clause-two_well c = subst (λ (j : Json). is_well_formed j ≡ true) (sym c.in_ok-two_json.ensures.written) c.requires.two_fits.well

pub have_same_text-requires-clause-one_depth : goal.have_same_text-requires-clause-one_depth
have_same_text-requires-clause-one_depth c = subst (λ (j : Json). depth_of j ≤ 64) (sym c.in_ok-one_json.ensures.written) c.requires.one_fits.deep

pub have_same_text-requires-clause-two_depth : goal.have_same_text-requires-clause-two_depth
have_same_text-requires-clause-two_depth c = subst (λ (j : Json). depth_of j ≤ 64) (sym c.in_ok-two_json.ensures.written) c.requires.two_fits.deep

pub returns-clause-bytes : goal.returns-clause-bytes
returns-clause-bytes c =
    subst (λ (j : Json). IfOk c.have_same_text.result (λ same. (same ≡ true) ↔ (compact_text (data_of j) ≡ compact_text (data_of (written c.args.two.now))))) c.in_ok-one_json.ensures.written
    (subst (λ (j : Json). IfOk c.have_same_text.result (λ same. (same ≡ true) ↔ (compact_text (data_of c.in_ok-one_json.one_json) ≡ compact_text (data_of j)))) c.in_ok-two_json.ensures.written c.have_same_text.ensures.text)

pub returns-clause-value : goal.returns-clause-value
returns-clause-value c =
    let a = c.args.one.now in
    let b = c.args.two.now in
    IfOk-weaker c.have_same_text.result (λ same. (same ≡ true) ↔ (c.in_ok-one_json.one_json ≡ c.in_ok-two_json.two_json)) (λ same. (same ≡ true) ↔ (a ≡ b))
    (λ same h. (
      λ is. written_tells a b c.requires.one_regular c.requires.two_regular (sym c.in_ok-one_json.ensures.written ∙ h.0 is ∙ c.in_ok-two_json.ensures.written),
      λ equal. h.1 (c.in_ok-one_json.ensures.written ∙ ap written equal ∙ sym c.in_ok-two_json.ensures.written),
    ))
    c.have_same_text.ensures.value
