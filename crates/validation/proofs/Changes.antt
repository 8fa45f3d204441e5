-- The test of a changed template, and the fact that it tests.
use Rattle.std.proofs.Common.{◌≡◌, ◌≢◌, ◌↔◌, Bool, true, false, ◌&&◌, not, List, [], ◌∷◌, Option, Some, None, Result, IsErr, IsSomeAnd, is_err, refl, sym, ◌∙◌}
use Rattle.std.proofs.lemmas.Slice.Eq.{bytes_eq-Decides}
use Rattle.json_tree.specs.Equal.{is_equal}
use Rattle.json_tree.specs.EqualLaws.{is_equal-exact, is_equal-of, tells-equal}
use Rattle.resource_types.specs.declared.specification.Template.{Template}
use Rattle.resource_types.specs.contracts.specification.Template as template_row
use Rattle.resource_types.specs.declared.manifests.Manifest.{Manifest}
use Rattle.resource_types.specs.declared.objects.Object.{Object}
use Rattle.validation.specs.declared.change.KeptName.{KeptName}
use Rattle.validation.specs.Defaults.{is_empty}
use Rattle.validation.specs.Change.{DiffersUnderName, differs_under_name, ChangesKeptName, refused_if, templates_fault, change_fault, template_of_body, template_of_spec}

pub tells_same : (t : Bool) (a b : Template) → ((t ≡ true) ↔ (a ≡ b)) → t ≡ is_equal template_row.the_row.coded a b
tells_same = tells-equal template_row.the_row.coded

both : (a b : Bool) → a ≡ true → b ≡ true → (a && b) ≡ true
both a b e f = rw (e, f) refl

left : (a b : Bool) → (a && b) ≡ true → a ≡ true
left true b e = refl
left false b e = e

right : (a b : Bool) → (a && b) ≡ true → b ≡ true
right true b e = e
right false b e = cc

given_of : {A : Type 0} (xs : List A) → not (is_empty xs) ≡ true → xs ≢ []
given_of [] e = λ h. absurd cc
given_of (x ∷ xs) e = λ h. absurd cc

of_given : {A : Type 0} (xs : List A) → xs ≢ [] → not (is_empty xs) ≡ true
of_given [] h = absurd (h refl)
of_given (x ∷ xs) h = refl

not_both : (t : Bool) → t ≡ true → not t ≡ true → ⊥
not_both true e f = absurd cc
not_both false e f = absurd cc

differs_of : (a b : Template) → not (is_equal template_row.the_row.coded a b) ≡ true → a ≢ b
differs_of a b e h = not_both (is_equal template_row.the_row.coded a b) (is_equal-of template_row.the_row.coded a b h) e

of_differs : (a b : Template) → a ≢ b → not (is_equal template_row.the_row.coded a b) ≡ true
of_differs a b h = by_test (is_equal template_row.the_row.coded a b) refl
  where
    by_test : (t : Bool) → is_equal template_row.the_row.coded a b ≡ t → not t ≡ true
    by_test true e = absurd (h (is_equal-exact template_row.the_row.coded a b e))
    by_test false e = refl

pub differs_exact : (a b : Template) → (differs_under_name a b ≡ true) ↔ DiffersUnderName a b
differs_exact a b =
    let names = bytes_eq-Decides a.name b.name in (
      λ e. (names.0 (left _ _ e), given_of a.name (left _ _ (right _ _ e)), differs_of a b (right _ _ (right _ _ e))),
      λ h. both _ _ (names.1 h.0) (both _ _ (of_given a.name h.1) (of_differs a b h.2)),
    )

refused_if-errs : (t : Bool) → is_err (refused_if t) ≡ t
refused_if-errs true = refl
refused_if-errs false = refl

templates_exact : (old new : Option Template) → IsErr (templates_fault old new) ↔ IsSomeAnd old (λ before. IsSomeAnd new (λ after. DiffersUnderName before after))
templates_exact None new = (λ e. absurd cc, λ h. absurd h)
templates_exact (Some a) None = (λ e. absurd cc, λ h. absurd h)
templates_exact (Some a) (Some b) =
    let errs = refused_if-errs (differs_under_name a b) in
    (λ e. (differs_exact a b).0 (sym errs ∙ e), λ h. errs ∙ (differs_exact a b).1 h)

-- a check of the change refuses exactly where a template changed under the name that it keeps
pub change_exact : (old : Object) (new : Manifest) → IsErr (change_fault old new) ↔ ChangesKeptName old new
change_exact old new = templates_exact (template_of_body old.body) (template_of_spec new.spec)

pub refused_as : (old : Object) (new : Manifest) (answer : Result (Unit {0}) KeptName) → answer ≡ change_fault old new → IsErr answer ↔ ChangesKeptName old new
refused_as old new answer e = rw e (change_exact old new)
