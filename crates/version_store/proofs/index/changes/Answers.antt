use Rattle.std.proofs.Common.{◌≡◌, ℕ, ◌+◌, ◌-◌, ◌<◌, ◌≤◌, List, [], ◌∷◌, ◌++◌, length, take, drop, get_or, Bool, true, false, cond, refl, ap, sym, ◌∙◌, arith, append_assoc, append-nil, length-append, zero, suc}
use Rattle.std.proofs.lemmas.List.{drop_more}
use Rattle.version_store.specs.declared.write.Entry.{Entry}
use Rattle.version_store.specs.Journal.{changes_from}
use Rattle.version_store.proofs.index.changes.Goals.{then-eq+in_ok-push, else-eq, else-loop-index-test, then-loop-index-test+then-len-most}
use Rattle.version_store.proofs.index.changes.Goals as goal

take_one : (list rest : List ℕ) (most v : ℕ) → length list < most → (list ++ v ∷ []) ++ take (most - length (list ++ v ∷ [])) rest ≡ list ++ take (most - length list) (v ∷ rest)
take_one list rest most v h =
    let one : most - length list ≡ suc (most - length (list ++ v ∷ [])) = omega (arith, length-append list (v ∷ [])) in
    append_assoc list (v ∷ []) (take (most - length (list ++ v ∷ [])) rest) ∙ ap (λ n. list ++ take n (v ∷ rest)) (sym one)

module _ {O D K N A : Type 0} (kind_of : K → D) (kind_eq : D → D → Bool) (kind : D) where
  at_entry : (entries : List (Entry O D K N A)) (k : ℕ) (entry : Entry O D K N A) (b : Bool) → k < length entries → entry ≡ get_or entries k entry → b ≡ kind_eq (kind_of entry.key) kind
      → changes_from kind_of kind_eq kind k (drop k entries) ≡ cond b ((k + 1) ∷ changes_from kind_of kind_eq kind (k + 1) (drop (k + 1) entries)) (changes_from kind_of kind_eq kind (k + 1) (drop (k + 1) entries))
  at_entry entries k entry b within at e =
      let next = changes_from kind_of kind_eq kind (k + 1) (drop (k + 1) entries) in
      ap (changes_from kind_of kind_eq kind k) (drop_more entries k entry within ∙ ap (λ x. x ∷ drop (k + 1) entries) (sym at))
      ∙ ap (λ (t : Bool). cond t ((k + 1) ∷ next) next) (sym e)

pub loop-index-preserved : goal.loop-index-preserved
loop-index-preserved g c =
    let kind_of = g.O.Item.kind_of in
    let kind_eq = g.O.Kind.PartialEq.eq in
    let entries = c.args.entries.now in
    let k = c.loop-index.index in
    let list = c.loop-index.versions.items in
    let next = changes_from kind_of kind_eq c.args.kind (k + 1) (drop (k + 1) entries) in
    let within : k < length entries = c.loop-index-test.true in
    let few : length list < c.args.most = omega (arith, c.if-len-most.false, c.len.ensures, c.loop-index.versions.ok.0) in
    let test : c.eq.result ≡ kind_eq (kind_of c.index-entries-index.result.key) c.args.kind = c.eq.ensures ∙ ap (λ x. kind_eq x c.args.kind) (c.kind_of.ensures ∙ ap (λ (e : Entry _ _ _ _ _). kind_of e.key) (sym c.index-entries-index.is)) in
    record {
      told = elim c.if-eq.branch [
        | then-eq+in_ok-push w ↦
            ap (λ l. l ++ take (c.args.most - length l) next) (ap (λ v. v.items) w.versions-is ∙ w.in_ok-push.ensures.items)
            ∙ take_one list next c.args.most (k + 1) few
            ∙ ap (λ r. list ++ take (c.args.most - length list) r) (sym (at_entry kind_of kind_eq c.args.kind entries k c.index-entries-index.result true within c.index-entries-index.is (sym w.if-eq.true ∙ test)))
            ∙ c.loop-index.invariant.told
        | else-eq w ↦
            ap (λ l. l ++ take (c.args.most - length l) next) (ap (λ v. v.items) w.versions-is)
            ∙ ap (λ r. list ++ take (c.args.most - length list) r) (sym (at_entry kind_of kind_eq c.args.kind entries k c.index-entries-index.result false within c.index-entries-index.is (sym w.if-eq.false ∙ test)))
            ∙ c.loop-index.invariant.told
      ];
      within = omega (arith, within);
    }

take_none : (list : List ℕ) (n : ℕ) → list ++ take n [] ≡ list
take_none list zero = append-nil list
take_none list (suc n) = append-nil list

drop_none : {X : Type 0} (xs : List X) (k : ℕ) → length xs ≤ k → drop k xs ≡ []
drop_none [] zero h = refl
drop_none [] (suc k) h = refl
drop_none (x ∷ xs) zero h = absurd (omega arith)
drop_none (x ∷ xs) (suc k) h = let h' : length xs ≤ k = omega arith in drop_none xs k h'

pub returns : goal.returns
returns g c =
    let kind_of = g.O.Item.kind_of in
    let kind_eq = g.O.Kind.PartialEq.eq in
    let entries = c.args.entries.now in
    let k = c.loop-index.index in
    let list = c.loop-index.versions.items in
    elim c.loop-index-test.branch [
      | else-loop-index-test w ↦
          sym (ap (λ es. list ++ take (c.args.most - length list) (changes_from kind_of kind_eq c.args.kind k es)) (drop_none entries k w.loop-index-test.false) ∙ take_none list (c.args.most - length list)) ∙ c.loop-index.invariant.told
      | then-loop-index-test+then-len-most w ↦
          let none : c.args.most - length list ≡ 0 = omega (arith, w.if-len-most.true, w.len.ensures, c.loop-index.versions.ok.0) in
          sym (ap (λ n. list ++ take n (changes_from kind_of kind_eq c.args.kind k (drop k entries))) none ∙ append-nil list) ∙ c.loop-index.invariant.told
    ]
