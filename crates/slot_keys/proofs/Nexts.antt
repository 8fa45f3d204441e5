-- The key that comes after another.
use Rattle.std.proofs.Common.{◌≡◌, Bool, true, false, cond, List, [], ◌∷◌, ◌++◌, Option, Some, None, refl, sym, ap, ◌∙◌}
use Rattle.std.specs.List.{find}
use Rattle.std.specs.Option.{option_or}
use Rattle.resource_types.specs.declared.names.Controller.{Controller}
use Rattle.resource_types.specs.declared.names.Controller.TheVariants as controller
use Rattle.resource_types.specs.declared.names.SlotKey.{SlotKey}
use Rattle.resource_types.specs.Lookups.{State}
use Rattle.control_rules.specs.Slots.{keys_for, all_keys}
use Rattle.control_rules.specs.Steps.{is_after, first_of, next_key}

or_by : {X : Type 0} (b : Bool) (x : X) (o p : Option X) → cond b (Some x) (option_or o p) ≡ option_or (cond b (Some x) o) p
or_by true x o p = refl
or_by false x o p = refl

-- the first of two lists that passes a test
pub find-append : {X : Type 0} (p : X → Bool) (xs ys : List X) → find p (xs ++ ys) ≡ option_or (find p xs) (find p ys)
find-append p [] ys = refl
find-append p (x ∷ xs) ys = ap (cond (p x) (Some x)) (find-append p xs ys) ∙ or_by (p x) x (find p xs) (find p ys)

first_is : (keys : List SlotKey) → find (is_after None) keys ≡ first_of keys
first_is [] = refl
first_is (key ∷ keys) = refl

-- the key that comes after, or else the first
pub next_there : (cursor : Option SlotKey) (keys : List SlotKey) (key : SlotKey) → Some key ≡ find (is_after cursor) keys → Some key ≡ next_key cursor keys
unfolding next_key
next_there cursor keys key e = ap (λ o. option_or o (first_of keys)) e

pub next_first : (cursor : Option SlotKey) (keys : List SlotKey) (first : Option SlotKey) → None ≡ find (is_after cursor) keys → first ≡ find (is_after None) keys → first ≡ next_key cursor keys
unfolding next_key
next_first cursor keys first e f = f ∙ first_is keys ∙ ap (λ o. option_or o (first_of keys)) e

-- ---- all controllers, one after another

module _ (cursor : Option SlotKey) (st : State) where
  abbrev at : Controller → Option SlotKey
  at c = find (is_after cursor) (keys_for c st)

  pub nexts : find (is_after cursor) (all_keys st) ≡ option_or (at controller.Service) (option_or (at controller.Configuration) (option_or (at controller.Revision) (option_or (at controller.Collector) (at controller.Route))))
  unfolding all_keys
  nexts =
      let p = is_after cursor in
      let route = keys_for controller.Route st in
      let collector = keys_for controller.Collector st in
      let revision = keys_for controller.Revision st in
      let configuration = keys_for controller.Configuration st in
      find-append p (keys_for controller.Service st) (configuration ++ (revision ++ (collector ++ route)))
      ∙ ap (option_or (at controller.Service)) (find-append p configuration (revision ++ (collector ++ route))
      ∙ ap (option_or (at controller.Configuration)) (find-append p revision (collector ++ route)
      ∙ ap (option_or (at controller.Revision)) (find-append p collector route)))

  pub next_service : (key : SlotKey) → Some key ≡ at controller.Service → Some key ≡ find (is_after cursor) (all_keys st)
  next_service key e = sym (nexts ∙ ap (λ o. option_or o (option_or (at controller.Configuration) (option_or (at controller.Revision) (option_or (at controller.Collector) (at controller.Route))))) (sym e))

  module _ (no_service : None ≡ at controller.Service) where
    nexts_2 : find (is_after cursor) (all_keys st) ≡ option_or (at controller.Configuration) (option_or (at controller.Revision) (option_or (at controller.Collector) (at controller.Route)))
    nexts_2 = nexts ∙ ap (λ o. option_or o (option_or (at controller.Configuration) (option_or (at controller.Revision) (option_or (at controller.Collector) (at controller.Route))))) (sym no_service)

    pub next_configuration : (key : SlotKey) → Some key ≡ at controller.Configuration → Some key ≡ find (is_after cursor) (all_keys st)
    next_configuration key e = sym (nexts_2 ∙ ap (λ o. option_or o (option_or (at controller.Revision) (option_or (at controller.Collector) (at controller.Route)))) (sym e))

    module _ (no_configuration : None ≡ at controller.Configuration) where
      nexts_3 : find (is_after cursor) (all_keys st) ≡ option_or (at controller.Revision) (option_or (at controller.Collector) (at controller.Route))
      nexts_3 = nexts_2 ∙ ap (λ o. option_or o (option_or (at controller.Revision) (option_or (at controller.Collector) (at controller.Route)))) (sym no_configuration)

      pub next_revision : (key : SlotKey) → Some key ≡ at controller.Revision → Some key ≡ find (is_after cursor) (all_keys st)
      next_revision key e = sym (nexts_3 ∙ ap (λ o. option_or o (option_or (at controller.Collector) (at controller.Route))) (sym e))

      module _ (no_revision : None ≡ at controller.Revision) where
        nexts_4 : find (is_after cursor) (all_keys st) ≡ option_or (at controller.Collector) (at controller.Route)
        nexts_4 = nexts_3 ∙ ap (λ o. option_or o (option_or (at controller.Collector) (at controller.Route))) (sym no_revision)

        pub next_collector : (key : SlotKey) → Some key ≡ at controller.Collector → Some key ≡ find (is_after cursor) (all_keys st)
        next_collector key e = sym (nexts_4 ∙ ap (λ o. option_or o (at controller.Route)) (sym e))

        pub next_route : (key : Option SlotKey) → None ≡ at controller.Collector → key ≡ at controller.Route → key ≡ find (is_after cursor) (all_keys st)
        next_route key none e = e ∙ sym (nexts_4 ∙ ap (λ o. option_or o (at controller.Route)) (sym none))

-- what is no key is none
pub none_if : (o at : Option SlotKey) → ((key : SlotKey) → o ≡ Some key → ⊥) → o ≡ at → None ≡ at
none_if None at not e = e
none_if (Some key) at not e = absurd (not key refl)
