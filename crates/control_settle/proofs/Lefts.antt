-- What is left at a Route, with its status and the pins that it needs no longer: how other rounds leave it.
use Rattle.std.proofs.Common.{◌≡◌, ◌≢◌, ℕ, suc, ◌+◌, ◌≤◌, Bool, true, false, not, ◌&&◌, List, [], ◌∷◌, map, Some, None, bytes_eq, refl, ap, ◌∙◌, arith}
use Rattle.resource_types.specs.declared.names.Kind.{Kind}
use Rattle.resource_types.specs.declared.names.Kind.TheVariants as kind
use Rattle.resource_types.specs.declared.names.Name.{Name}
use Rattle.resource_types.specs.declared.conditions.Condition.{Condition}
use Rattle.resource_types.specs.declared.objects.Object.{Object}
use Rattle.resource_types.specs.Objects.{is_of, pins_of}
use Rattle.resource_types.specs.Lookups.{State}
use Rattle.resource_types.proofs.Exact.{bytes-exact}
use Rattle.conditions.specs.Times.{with_time}
use Rattle.control_rules.specs.Standing.{key_at, listed, standing, published_at}
use Rattle.control_rules.specs.Differences.{timeless}
use Rattle.control_settle.specs.Burden.{one_if, weight, burden}
use Rattle.control_settle.specs.Left.{is_excess, excess, is_wrong, left}
use Rattle.control_settle.proofs.Machine.{In}
use Rattle.control_entries.proofs.Changes.{Change}
use Rattle.control_entries.proofs.Standing.{stands}
use Rattle.control_settle.proofs.Lists.{weigh_less, weigh_put_any, weigh_put_at, weigh_removed}
use Rattle.control_settle.proofs.Likeness.{Like}
use Rattle.control_settle.proofs.Burdens.{is_of_like}
use Rattle.control_settle.proofs.Grounded.{one_most}
use Rattle.resource_types.specs.declared.names.Key.{Key}

-- ---- statuses apart from times

times_alone : (old : List Condition) (now : ℕ) (cs : List Condition) → map timeless (map (with_time old now) cs) ≡ map timeless cs
times_alone old now [] = refl
times_alone old now (c ∷ cs) = ap (λ z. timeless c ∷ z) (times_alone old now cs)

-- ---- no more than the burden and one

flag_less : (t u v : Bool) (rest : ℕ) → one_if ((t && u) && v) ≤ one_if t + rest
flag_less true true true rest = omega arith
flag_less true true false rest = omega arith
flag_less true false v rest = omega arith
flag_less false u v rest = omega arith

excess_weighs : (st : State) (r : Name) (o : Object) → one_if (is_excess st r o) ≤ weight st o
unfolding is_excess weight
excess_weighs st r o = flag_less (is_of kind.Revision o) (bytes_eq o.key.name.space r.space) (listed r.name (pins_of o.body) && not (listed o.key.name.name (published_at st r))) _

pub left_most : (domain : List ℕ) (st : State) (r : Name) → left domain st r ≤ suc (burden st)
unfolding left excess burden
left_most domain st r = let a = weigh_less (λ o. one_if (is_excess st r o)) (weight st) st (λ o i. excess_weighs st r o) in let b = one_most (is_wrong domain st r) in omega arith

-- ---- the excess

pub is_excess_same : (a b : State) (r : Name) (o : Object) → published_at b r ≡ published_at a r → is_excess b r o ≡ is_excess a r o
unfolding is_excess
is_excess_same a b r o e = ap (λ names. (is_of kind.Revision o && bytes_eq o.key.name.space r.space) && (listed r.name (pins_of o.body) && not (listed o.key.name.name names))) e

pub no_excess : (st : State) (r : Name) (o : Object) → is_of kind.Revision o ≡ false → is_excess st r o ≡ false
unfolding is_excess
no_excess st r o e = rw e refl

pub unpinned_excess : (st : State) (r : Name) (o : Object) → listed r.name (pins_of o.body) ≡ false → is_excess st r o ≡ false
unfolding is_excess
unpinned_excess st r o e = ap (λ t. (is_of kind.Revision o && bytes_eq o.key.name.space r.space) && (t && not (listed o.key.name.name (published_at st r)))) e ∙ both (is_of kind.Revision o && bytes_eq o.key.name.space r.space)
  where
    both : (t : Bool) → (t && false) ≡ false
    both true = refl
    both false = refl

-- of one like another, whose pins agree on the Route where they are in its namespace
like_excess : (st : State) (r : Name) (o x : Object) → Like o x → (o.key.name.space ≡ r.space → listed r.name (pins_of x.body) ≡ listed r.name (pins_of o.body)) → is_excess st r x ≡ is_excess st r o
unfolding is_excess
like_excess st r o x l pins = (λ i. (is_of_like kind.Revision o x l i && bytes_eq (l.key i).name.space r.space) && (listed r.name (pins_of x.body) && not (listed (l.key i).name.name (published_at st r)))) ∙ go (bytes_eq o.key.name.space r.space) refl
  where
    go : (t : Bool) → bytes_eq o.key.name.space r.space ≡ t → ((is_of kind.Revision o && t) && (listed r.name (pins_of x.body) && not (listed o.key.name.name (published_at st r)))) ≡ ((is_of kind.Revision o && t) && (listed r.name (pins_of o.body) && not (listed o.key.name.name (published_at st r))))
    go true e = ap (λ u. (is_of kind.Revision o && true) && (u && not (listed o.key.name.name (published_at st r)))) (pins (bytes-exact o.key.name.space r.space e))
    go false e = never (is_of kind.Revision o)
      where
        never : (t : Bool) → ((t && false) && (listed r.name (pins_of x.body) && not (listed o.key.name.name (published_at st r)))) ≡ ((t && false) && (listed r.name (pins_of o.body) && not (listed o.key.name.name (published_at st r))))
        never true = refl
        never false = refl

module _ (n now : ℕ) (a b : State) (r : Name) (same : published_at b r ≡ published_at a r) where
  members : (k : Key) → (p : Object) → In p a → (k ≢ p.key) → one_if (is_excess b r p) ≤ one_if (is_excess a r p)
  members k p i apart = let e : one_if (is_excess b r p) ≡ one_if (is_excess a r p) = ap one_if (is_excess_same a b r p same) in omega arith

  pub excess_light : (k : Kind) (w : Name) (x : Object) → is_excess b r x ≡ false → Change (key_at k w) (Some x) a b → excess b r ≤ excess a r
  unfolding excess
  excess_light k w x none h =
      let z = weigh_put_any (λ v. one_if (is_excess b r v)) (λ v. one_if (is_excess a r v)) (key_at k w) x a b h (members (key_at k w)) in
      let e : one_if (is_excess b r x) ≡ 0 = ap one_if none in
      omega arith

  pub excess_gone : (k : Kind) (w : Name) (o : Object) → standing k w a ≡ Some o → Change (key_at k w) None a b → excess b r ≤ excess a r
  unfolding excess
  excess_gone k w o at h = let z = weigh_removed (λ v. one_if (is_excess b r v)) (λ v. one_if (is_excess a r v)) (key_at k w) o a b h (stands k w a o at).found (members (key_at k w)) in omega arith

  -- with what the object itself loses
  pub excess_put : (k : Kind) (w : Name) (o x : Object) → standing k w a ≡ Some o → Change (key_at k w) (Some x) a b → excess b r + one_if (is_excess a r o) ≤ one_if (is_excess b r x) + excess a r
  unfolding excess
  excess_put k w o x at h = weigh_put_at (λ v. one_if (is_excess b r v)) (λ v. one_if (is_excess a r v)) (key_at k w) x o a b h (stands k w a o at).found (members (key_at k w))

  pub excess_like : (k : Kind) (w : Name) (o x : Object) → standing k w a ≡ Some o → Change (key_at k w) (Some x) a b → Like o x → (o.key.name.space ≡ r.space → listed r.name (pins_of x.body) ≡ listed r.name (pins_of o.body)) → excess b r ≤ excess a r
  excess_like k w o x at h l pins =
      let z = excess_put k w o x at h in
      let e : one_if (is_excess b r x) ≡ one_if (is_excess a r o) = ap one_if (is_excess_same a b r x same ∙ like_excess a r o x l pins) in
      omega arith
