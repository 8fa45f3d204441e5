-- Values and members that are well formed and not too deep, put together.
use Rattle.std.proofs.Common.{◌≡◌, ℕ, suc, ◌≤◌, Bool, true, false, ◌&&◌, List, [], ◌∷◌, map, Option, Some, None, refl, sym, ap, subst, ◌∙◌, arith}
use Rattle.serde_json.specs.Data.{Data, object, array, depth, items_depth}
use Rattle.json_tree.specs.Tree.{data_of, items_data, table_data, is_well, items_are_well}
use Rattle.json_tree.specs.declared.value.Json.{Json, Bool as truth_of, Nat, Str, Arr}
use Rattle.json_tree.proofs.Laws.{data_of-Bool, data_of-Nat, data_of-Str, data_of-Arr, data_of-object, is_well_formed-Obj, values_are_well-put_entry, members_depth-put_entry}
use Rattle.json_tree.proofs.Rising.{rises-put_entry}
use Rattle.resource_codec.specs.Reading.{Member}
use Rattle.resource_codec.specs.Sound.{Fits, Sound}
use Rattle.resource_codec.specs.Written.{Field, put_field, put_fields, object_of, text_field, object_field, array_field, number_field, truth_field}

-- what stands in a field, if anything, fits
abbrev pub FieldFits : ℕ → Option Json → Type 0
FieldFits n None = Unit {0}
FieldFits n (Some j) = Fits n j

-- what stands in each field, if anything, fits
abbrev pub AllFit : ℕ → List Field → Type 0
AllFit n [] = Unit {0}
AllFit n (f ∷ fs) = FieldFits n f.1 × AllFit n fs

pub both_true : (b c : Bool) → b ≡ true → c ≡ true → (b && c) ≡ true
both_true b c p q = rw (p, q) refl

pub and_true : (b c : Bool) → (b && c) ≡ true → (b ≡ true) × (c ≡ true)
and_true true c h = (refl, h)
and_true false c h = absurd cc

-- ---- puts

pub sound_field : (n : ℕ) (k : List ℕ) (o : Option Json) (es : List Member) → FieldFits n o → Sound n es → Sound n (put_field k o es)
unfolding put_field
sound_field n k None es f s = s
sound_field n k (Some v) es f s = record {
  rising = rises-put_entry k v es s.rising;
  well = values_are_well-put_entry k v es f.well s.well;
  deep = members_depth-put_entry k v n es f.deep s.deep;
}

pub sound_fields : (n : ℕ) (fs : List Field) (es : List Member) → AllFit n fs → Sound n es → Sound n (put_fields fs es)
sound_fields n [] es f s = s
sound_fields n (g ∷ gs) es f s = sound_fields n gs (put_field g.0 g.1 es) f.1 (sound_field n g.0 g.1 es f.0 s)

pub no_members : (n : ℕ) → Sound n []
no_members n = record { rising = refl; well = refl; deep = omega arith }

-- ---- one value

pub object_fits : (n : ℕ) (es : List Member) → Sound n es → Fits (suc n) (object_of es)
object_fits n es s =
    let e : data_of (object_of es) ≡ object (table_data es) = data_of-object (record { entries = es }) in
    record {
      well = is_well_formed-Obj (record { entries = es }) ∙ both_true _ _ s.rising s.well;
      deep = subst (λ (d : Data). depth d ≤ suc n) (sym e) (omega (arith, s.deep));
    }

pub array_fits : (n : ℕ) (js : List Json) → items_are_well (items_data js) ≡ true → items_depth (items_data js) ≤ n → Fits (suc n) (Arr js)
array_fits n js w d =
    let e : data_of (Arr js) ≡ array (items_data js) = data_of-Arr js in
    record { well = ap is_well e ∙ w; deep = subst (λ (x : Data). depth x ≤ suc n) (sym e) (omega (arith, d)) }

pub str_fits : (n : ℕ) (t : List ℕ) → Fits n (Str t)
str_fits n t = record { well = ap is_well (data_of-Str t); deep = subst (λ (d : Data). depth d ≤ n) (sym (data_of-Str t)) (omega arith) }

pub nat_fits : (n x : ℕ) → Fits n (Nat x)
nat_fits n x = record { well = ap is_well (data_of-Nat x); deep = subst (λ (d : Data). depth d ≤ n) (sym (data_of-Nat x)) (omega arith) }

pub bool_fits : (n : ℕ) (b : Bool) → Fits n (truth_of b)
bool_fits n b = record { well = ap is_well (data_of-Bool b); deep = subst (λ (d : Data). depth d ≤ n) (sym (data_of-Bool b)) (omega arith) }

pub more : (n m : ℕ) (o : Option Json) → n ≤ m → FieldFits n o → FieldFits m o
more n m None le f = tt
more n m (Some j) le f = record { well = f.well; deep = omega (arith, f.deep) }

-- ---- one field

pub text_fits : (n : ℕ) (t : List ℕ) → FieldFits n (text_field t)
unfolding text_field
text_fits n [] = tt
text_fits n (b ∷ bs) = str_fits n (b ∷ bs)

pub number_fits : (n : ℕ) (x : Option ℕ) → FieldFits n (number_field x)
unfolding number_field
number_fits n None = tt
number_fits n (Some x) = nat_fits n x

pub truth_fits : (n : ℕ) (x : Option Bool) → FieldFits n (truth_field x)
unfolding truth_field
truth_fits n None = tt
truth_fits n (Some x) = bool_fits n x

pub object_field_fits : (n : ℕ) (es : List Member) → Sound n es → FieldFits (suc n) (object_field es)
unfolding object_field
object_field_fits n [] s = tt
object_field_fits n (e ∷ es) s = object_fits n (e ∷ es) s

pub array_field_fits : (n : ℕ) (js : List Json) → items_are_well (items_data js) ≡ true → items_depth (items_data js) ≤ n → FieldFits (suc n) (array_field js)
unfolding array_field
array_field_fits n [] w d = tt
array_field_fits n (j ∷ js) w d = array_fits n (j ∷ js) w d

-- ---- lists of values

module _ {A : Type 0} (f : A → Json) (n : ℕ) (each : (a : A) → Fits n (f a)) where
  all_well : (xs : List A) → items_are_well (items_data (map f xs)) ≡ true
  all_well [] = refl
  all_well (x ∷ xs) = both_true _ _ (each x).well (all_well xs)

  all_deep : (xs : List A) → items_depth (items_data (map f xs)) ≤ n
  all_deep [] = omega arith
  all_deep (x ∷ xs) = omega (arith, (each x).deep, all_deep xs)

  pub list_fits : (xs : List A) → FieldFits (suc n) (array_field (map f xs))
  list_fits xs = array_field_fits n (map f xs) (all_well xs) (all_deep xs)
