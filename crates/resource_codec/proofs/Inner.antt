-- What is inside a value that is well formed is well formed, and less deep.
use Rattle.std.proofs.Common.{◌≡◌, ℕ, suc, ◌-◌, ◌≤◌, Bool, true, false, cond, List, [], ◌∷◌, Option, Some, None, Result, Ok, Err, refl, sym, ap, subst, ◌∙◌, arith}
use Rattle.std.specs.Prelude.{filter}
use Rattle.std.specs.List.{filter_map, cons_option, list_all}
use Rattle.std.specs.Ordering.{nat_cmp, is_lt}
use Rattle.std.specs.Cmp.Lexicographic.{slice_cmp}
use Rattle.serde_json.specs.Data.{Data, object, depth, members_depth}
use Rattle.json_tree.specs.Tree.{find, data_of, data_step, table_data, is_well, values_are_well, rises, names_of, names_rise, is_before_all}
use Rattle.json_tree.specs.declared.value.Json.{Json}
use Rattle.json_tree.specs.declared.value.Json.TheViews.{out-Json}
use Rattle.json_tree.specs.declared.value.Json.TheFolds.{fold_out-Json, map-Json}
use Rattle.json_tree.specs.declared.value.Json.TheOpen.{Json-F}
use Rattle.json_tree.specs.declared.members.Table.{Table}
use Rattle.json_tree.proofs.Facts.{member_names-table_data}
use Rattle.json_tree.proofs.Laws.{is_well_formed-find, depth_of-find}
use Rattle.resource_types.specs.declared.manifests.ManifestSpec.{ManifestSpec}
use Rattle.resource_types.specs.declared.manifests.ManifestSpec.TheVariants as spec
use Rattle.resource_codec.specs.declared.fields.Field.{Field as Row}
use Rattle.resource_codec.specs.Reading.{Member, layer, under, object as object_at, is_rest, named, named_text, may_be_text, optional_object, optional_texts, texts_in, ◌>>=◌}
use Rattle.resource_codec.specs.Written.{object_of, Rises}
use Rattle.resource_codec.specs.Sound.{Fits, Sound, RestOfSpecFits}
use Rattle.resource_codec.proofs.Sounds.{object_fits, and_true}

-- ---- the members of an object

at_object : (n : ℕ) (d : Data) (m : Table Json) → d ≡ object (table_data m.entries) → is_well d ≡ true → depth d ≤ n → (1 ≤ n) × Sound (n - 1) m.entries
at_object n d m e w le =
    let parts = and_true (rises (table_data m.entries)) (values_are_well (table_data m.entries)) (sym (ap is_well e) ∙ w) in
    let deep : depth (object (table_data m.entries)) ≤ n = subst (λ (x : Data). depth x ≤ n) e le in
    (omega (arith, deep), record { rising = sym (ap names_rise (member_names-table_data m.entries)) ∙ parts.0; well = parts.1; deep = omega (arith, deep) })

at_layer : (n : ℕ) (r : Row) (y : Json-F Json) (d : Data) (es : List Member) → d ≡ data_step (map-Json Json Data data_of y) → is_well d ≡ true → depth d ≤ n
    → object_at r y ≡ Ok es → (1 ≤ n) × Sound (n - 1) es
at_layer n r Json-F.Null d es e w le is = absurd cc
at_layer n r (Json-F.Bool b) d es e w le is = absurd cc
at_layer n r (Json-F.Int z) d es e w le is = absurd cc
at_layer n r (Json-F.Nat x) d es e w le is = absurd cc
at_layer n r (Json-F.Str s) d es e w le is = absurd cc
at_layer n r (Json-F.Arr js) d es e w le is = absurd cc
at_layer n r (Json-F.Obj m) d es e w le is = let same : m.entries ≡ es = cc in subst (λ (xs : List Member). (1 ≤ n) × Sound (n - 1) xs) same (at_object n d m e w le)

pub object_inside : (n : ℕ) (r : Row) (j : Json) (es : List Member) → Fits n j → object_at r (out-Json j) ≡ Ok es → (1 ≤ n) × Sound (n - 1) es
object_inside n r j es f is = at_layer n r (out-Json j) (data_of j) es (fold_out-Json Data data_step j) f.well f.deep is

find_inside : (n : ℕ) (k : List ℕ) (es : List Member) (j : Json) → values_are_well (table_data es) ≡ true → members_depth (table_data es) ≤ n → find k es ≡ Some j → Fits n j
find_inside n k es j w d is = record { well = is_well_formed-find k es j w is; deep = omega (arith, depth_of-find k es j is) }

at_found : (n : ℕ) (r : Row) (k : List ℕ) (es inner : List Member) (o : Option Json) → Sound n es → find k es ≡ o → object_at r (layer o) ≡ Ok inner → (1 ≤ n) × Sound (n - 1) inner
at_found n r k es inner None s found is = absurd cc
at_found n r k es inner (Some j) s found is = object_inside n r j inner (find_inside n k es j s.well s.deep found) is

pub under_inside : (n : ℕ) (r : Row) (k : List ℕ) (es inner : List Member) → Sound n es → object_at r (under k es) ≡ Ok inner → (1 ≤ n) × Sound (n - 1) inner
under_inside n r k es inner s is = at_found n r k es inner (find k es) s refl is

-- ---- fewer members

module _ (p : Member → Bool) where
  below_chosen : (b : Bool) (k : List ℕ) (e : Member) (es : List Member) → is_before_all k (names_of (e ∷ es)) ≡ true → is_before_all k (names_of (filter p es)) ≡ true
      → is_before_all k (names_of (cond b (e ∷ filter p es) (filter p es))) ≡ true
  below_chosen true k e es h rest =
      let parts = and_true (is_lt (slice_cmp nat_cmp k e.0)) (is_before_all k (names_of es)) h in
      rw parts.0 rest
  below_chosen false k e es h rest = rest

  below_kept : (k : List ℕ) (es : List Member) → is_before_all k (names_of es) ≡ true → is_before_all k (names_of (filter p es)) ≡ true
  below_kept k [] h = refl
  below_kept k (e ∷ es) h =
      let parts = and_true (is_lt (slice_cmp nat_cmp k e.0)) (is_before_all k (names_of es)) h in
      below_chosen (p e) k e es h (below_kept k es parts.1)

  kept_chosen : (n : ℕ) (b : Bool) (e : Member) (es : List Member) → Sound n (e ∷ es) → Sound n (filter p es) → Sound n (cond b (e ∷ filter p es) (filter p es))
  kept_chosen n false e es s rest = rest
  kept_chosen n true e es s rest =
      let rising = and_true (is_before_all e.0 (names_of es)) (names_rise (names_of es)) s.rising in
      let well = and_true (is_well (data_of e.1)) (values_are_well (table_data es)) s.well in
      record {
        rising = rw (below_kept e.0 es rising.0) rest.rising;
        well = rw well.0 rest.well;
        deep = omega (arith, s.deep, rest.deep);
      }

  kept : (n : ℕ) (es : List Member) → Sound n es → Sound n (filter p es)
  kept n [] s = s
  kept n (e ∷ es) s =
      let rising = and_true (is_before_all e.0 (names_of es)) (names_rise (names_of es)) s.rising in
      let well = and_true (is_well (data_of e.1)) (values_are_well (table_data es)) s.well in
      kept_chosen n (p e) e es s (kept n es (record { rising = rising.1; well = well.1; deep = omega (arith, s.deep) }))

pub rest_inside : (n : ℕ) (es : List Member) → Sound n es → Fits (suc n) (object_of (filter is_rest es))
rest_inside n es s = object_fits n (filter is_rest es) (kept is_rest n es s)

pub three_less : (n : ℕ) (s : ManifestSpec) → 1 ≤ n → 1 ≤ n - 1 → RestOfSpecFits 1 (n - 1 - 1) s → RestOfSpecFits 3 n s
three_less n (spec.Service template traffic) a b f = record { well = f.well; deep = omega (arith, f.deep) }
three_less n (spec.Configuration template) a b f = record { well = f.well; deep = omega (arith, f.deep) }
three_less n (spec.Route traffic) a b f = tt

-- ---- the texts among members rise where the members do

below_one : (k name : List ℕ) (y : Json-F Json) (ts : List (List ℕ × List ℕ)) → is_lt (slice_cmp nat_cmp k name) ≡ true → is_before_all k (names_of ts) ≡ true
    → is_before_all k (names_of (cons_option (named name y) ts)) ≡ true
below_one k name Json-F.Null ts lt h = h
below_one k name (Json-F.Bool b) ts lt h = h
below_one k name (Json-F.Int z) ts lt h = h
below_one k name (Json-F.Nat x) ts lt h = h
below_one k name (Json-F.Str s) ts lt h = rw lt h
below_one k name (Json-F.Arr js) ts lt h = h
below_one k name (Json-F.Obj m) ts lt h = h

below_texts : (k : List ℕ) (es : List Member) → is_before_all k (names_of es) ≡ true → is_before_all k (names_of (filter_map named_text es)) ≡ true
below_texts k [] h = refl
below_texts k (e ∷ es) h =
    let parts = and_true (is_lt (slice_cmp nat_cmp k e.0)) (is_before_all k (names_of es)) h in
    below_one k e.0 (out-Json e.1) (filter_map named_text es) parts.0 (below_texts k es parts.1)

rises_one : (name : List ℕ) (y : Json-F Json) (ts : List (List ℕ × List ℕ)) → is_before_all name (names_of ts) ≡ true → names_rise (names_of ts) ≡ true
    → names_rise (names_of (cons_option (named name y) ts)) ≡ true
rises_one name Json-F.Null ts b h = h
rises_one name (Json-F.Bool c) ts b h = h
rises_one name (Json-F.Int z) ts b h = h
rises_one name (Json-F.Nat x) ts b h = h
rises_one name (Json-F.Str s) ts b h = rw b h
rises_one name (Json-F.Arr js) ts b h = h
rises_one name (Json-F.Obj m) ts b h = h

pub rises_texts : (es : List Member) → names_rise (names_of es) ≡ true → names_rise (names_of (filter_map named_text es)) ≡ true
rises_texts [] h = refl
rises_texts (e ∷ es) h =
    let parts = and_true (is_before_all e.0 (names_of es)) (names_rise (names_of es)) h in
    rises_one e.0 (out-Json e.1) (filter_map named_text es) (below_texts e.0 es parts.0) (rises_texts es parts.1)

-- ---- an object that may be absent

none_sound : (n : ℕ) (es : List Member) → [] ≡ es → Sound n es
none_sound n [] e = record { rising = refl; well = refl; deep = omega arith }
none_sound n (x ∷ es) e = absurd cc

maybe_layer : (n : ℕ) (r : Row) (y : Json-F Json) (d : Data) (es : List Member) → d ≡ data_step (map-Json Json Data data_of y) → is_well d ≡ true → depth d ≤ n
    → optional_object r y ≡ Ok es → Sound n es
maybe_layer n r Json-F.Null d es e w le is = none_sound n es cc
maybe_layer n r (Json-F.Bool b) d es e w le is = absurd cc
maybe_layer n r (Json-F.Int z) d es e w le is = absurd cc
maybe_layer n r (Json-F.Nat x) d es e w le is = absurd cc
maybe_layer n r (Json-F.Str []) d es e w le is = none_sound n es cc
maybe_layer n r (Json-F.Str (b ∷ bs)) d es e w le is = absurd cc
maybe_layer n r (Json-F.Arr js) d es e w le is = absurd cc
maybe_layer n r (Json-F.Obj m) d es e w le is =
    let same : m.entries ≡ es = cc in
    let inner = (at_object n d m e w le).1 in
    subst (λ (xs : List Member). Sound n xs) same (record { rising = inner.rising; well = inner.well; deep = omega (arith, inner.deep) })

maybe_found : (n : ℕ) (r : Row) (k : List ℕ) (es inner : List Member) (o : Option Json) → Sound n es → find k es ≡ o → optional_object r (layer o) ≡ Ok inner → Sound n inner
maybe_found n r k es inner None s found is = none_sound n inner cc
maybe_found n r k es inner (Some j) s found is =
    let f = find_inside n k es j s.well s.deep found in
    maybe_layer n r (out-Json j) (data_of j) inner (fold_out-Json Data data_step j) f.well f.deep is

pub maybe_inside : (n : ℕ) (r : Row) (k : List ℕ) (es inner : List Member) → Sound n es → optional_object r (under k es) ≡ Ok inner → Sound n inner
maybe_inside n r k es inner s is = maybe_found n r k es inner (find k es) s refl is

chosen_texts : (b : Bool) (r : Row) (es : List Member) (t : Table (List ℕ)) → names_rise (names_of es) ≡ true → cond b (Ok (record { entries = filter_map named_text es })) (Err r) ≡ Ok t → Rises t
chosen_texts true r es t rising is =
    let same : filter_map named_text es ≡ t.entries = cc in
    subst (λ (ts : List (List ℕ × List ℕ)). names_rise (names_of ts) ≡ true) same (rises_texts es rising)
chosen_texts false r es t rising is = absurd cc

maybe_texts_then : (n : ℕ) (r : Row) (k : List ℕ) (es : List Member) (t : Table (List ℕ)) (o : Result (List Member) Row) → Sound n es → optional_object r (under k es) ≡ o → o >>= texts_in r ≡ Ok t → Rises t
maybe_texts_then n r k es t (Ok inner) s found is = chosen_texts (list_all may_be_text inner) r inner t (maybe_inside n r k es inner s found).rising is
maybe_texts_then n r k es t (Err e) s found is = absurd cc

pub texts_rise : (n : ℕ) (r : Row) (k : List ℕ) (es : List Member) (t : Table (List ℕ)) → Sound n es → optional_texts r (under k es) ≡ Ok t → Rises t
texts_rise n r k es t s is = maybe_texts_then n r k es t (optional_object r (under k es)) s refl is
