-- What following a body that tells something makes of a gateway.
use Rattle.std.proofs.Common.{◌≡◌, ℕ, List, Option, Some, None, Result, Err, IsErrOf, sym, ap, subst, ◌∙◌}
use Rattle.json_tree.specs.declared.value.Json.{Json}
use Rattle.json_tree.proofs.RoundTrip.{same_read}
use Rattle.gateway_pick.specs.declared.tables.Change.{Change}
use Rattle.gateway_pick.specs.declared.error.FollowError.{FollowError}
use Rattle.gateway_pick.specs.declared.error.FollowError.TheVariants as error
use Rattle.gateway_pick.specs.Reading.{◌>>=◌, IsRefusal, Gives}
use Rattle.gateway_pick.specs.declared.tables.Published.{Published}
use Rattle.gateway_pick.specs.Tables.{all_changed, AreTables}
use Rattle.gateway_pick.specs.Gateway.{View, IsJson, told_in, follow_of, Follows}
use Rattle.gateway_pick.proofs.Good.{good_told, tables_kept}

abbrev pub with_changes : View → List Change × ℕ → Option View
with_changes old poll = Some (record { tables = all_changed poll.0 old.tables; version = poll.1 })

-- a text is that of one value
pub one_json : (body : List ℕ) (a b : Json) → IsJson body a → IsJson body b → a ≡ b
one_json body a b p q = same_read body a b p.reading.1 q.reading.1

pub followed : (body : List ℕ) (json : Json) (old : View) (changes : List Change) (v : ℕ) → IsJson body json → told_in json old.version ≡ Some (changes, v)
    → Follows body old (record { tables = all_changed changes old.tables; version = v })
unfolding follow_of
followed body json old changes v is e = record { json = json; read = is; followed = ap (λ o. o >>= with_changes old) e }

pub not_followed : (body : List ℕ) (old new : View) → ((json : Json) → IsJson body json → told_in json old.version ≡ None) → ¬ (Follows body old new)
unfolding follow_of
not_followed body old new none follows =
    let e : None ≡ Some new = sym (ap (λ o. o >>= with_changes old) (none follows.json follows.read)) ∙ follows.followed in
    cc

-- ---- answers

-- an answer on one value of a text is one on each
pub for_each : {X : Type 0} (body : List ℕ) (view : X → List Change × ℕ) (result : Result X FollowError) (least : ℕ) (json other : Json) → IsJson body json → IsJson body other
    → Gives view result (told_in json least) → Gives view result (told_in other least)
for_each body view result least json other p q gives = subst (λ j. Gives view result (told_in j least)) (one_json body json other p q) gives

refused_none : {Y : Type 0} (e : FollowError) (read : Option Y) → e ≡ error.Refused → IsRefusal e read → read ≡ None
refused_none error.Refused read h q = q
refused_none error.Memory read h q = absurd cc

module _ (body : List ℕ) (old : View) (tables : List Published) (version : ℕ) (is : record { tables = tables; version = version } ≡ old) where
  -- a body that was refused isn't followed
  pub follow_refused : {T : Type 0} (e : FollowError) → ((json : Json) → IsJson body json → IsRefusal e (told_in json version)) → IsErrOf {T = T} (Err e) error.Refused → (new : View) → ¬ (Follows body old new)
  follow_refused e told h new =
      let refused : e ≡ error.Refused = cc in
      not_followed body old new (λ json reads. subst (λ o. told_in json o.version ≡ None) is (refused_none e (told_in json version) refused (told json reads)))

  module _ (changes : List Change) (v : ℕ) (made : List Published) (text : (json : Json) × IsJson body json) (told : (json : Json) → IsJson body json → told_in json version ≡ Some (changes, v)) (same : made ≡ all_changed changes tables) where
    -- one that tells something is
    pub follow_ok : Follows body old (record { tables = made; version = v })
    follow_ok =
        let there = followed body text.0 (record { tables = tables; version = version }) changes v text.1 (told text.0 text.1) in
        subst (λ ts. Follows body old (record { tables = ts; version = v })) (sym same) (subst (λ o. Follows body o (record { tables = all_changed changes tables; version = v })) is there)

    -- and the gateway keeps what it is to keep
    pub follow_kept : AreTables tables → AreTables made
    follow_kept kept = subst AreTables (sym same) (tables_kept changes tables (good_told text.0 version changes v (told text.0 text.1)) kept)
