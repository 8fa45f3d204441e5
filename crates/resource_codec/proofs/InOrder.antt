-- Fields whose names rise: to add each behind the others is to put each at its place.
use Rattle.std.proofs.Common.{◌≡◌, ℕ, Bool, true, ◌&&◌, Option, Some, None, List, [], ◌∷◌, nat_cmp, codes, refl, sym, ap, ◌∙◌, arith}
use Rattle.std.specs.Cmp.Lexicographic.{slice_cmp}
use Rattle.std.specs.Ordering.{is_lt}
use Rattle.json_tree.specs.Tree.{names_rise, is_before_all, is_after_all, names_of}
use Rattle.json_tree.specs.declared.value.Json.{Json}
use Rattle.json_tree.proofs.Rising.{put-behind, after-push}
use Rattle.resource_types.specs.declared.specification.Target.{Target}
use Rattle.resource_codec.specs.Reading.{Member}
use Rattle.resource_codec.specs.Written.{Field, put_field, put_fields, add_field, text_field, truth_field, number_field, target_fields, target_members}
use Rattle.resource_codec.specs.Objects.{published_members}

-- the members with each field behind the others
abbrev pub add_fields : List Field → List Member → List Member
add_fields [] es = es
add_fields (f ∷ fs) es = add_fields fs (add_field f.0 f.1 es)

field_behind : (k : List ℕ) (o : Option Json) (es : List Member) → is_after_all k (names_of es) ≡ true → add_field k o es ≡ put_field k o es
unfolding add_field put_field
field_behind k None es h = refl
field_behind k (Some v) es h = sym (put-behind k v es h)

-- each of the names comes after all of the others
abbrev are_after_all : List (List ℕ) → List (List ℕ) → Bool
are_after_all [] ns = true
are_after_all (k ∷ ks) ns = is_after_all k ns && are_after_all ks ns

after_field : (k a : List ℕ) (o : Option Json) (es : List Member) → is_after_all k (names_of es) ≡ true → is_lt (slice_cmp nat_cmp a k) ≡ true
    → is_after_all k (names_of (add_field a o es)) ≡ true
unfolding add_field
after_field k a None es h b = h
after_field k a (Some v) es h b = after-push k a v es h b

still_after : (ks : List (List ℕ)) (a : List ℕ) (o : Option Json) (es : List Member) → are_after_all ks (names_of es) ≡ true → is_before_all a ks ≡ true
    → are_after_all ks (names_of (add_field a o es)) ≡ true
still_after [] a o es h b = refl
still_after (k ∷ ks) a o es h b =
    let first : is_after_all k (names_of (add_field a o es)) ≡ true = after_field k a o es (grind arith) (grind arith) in
    let rest : are_after_all ks (names_of (add_field a o es)) ≡ true = still_after ks a o es (grind arith) (grind arith) in
    grind arith

none_before : (ks : List (List ℕ)) → are_after_all ks [] ≡ true
none_before [] = refl
none_before (k ∷ ks) = none_before ks

behind : (fs : List Field) (es : List Member) → names_rise (names_of fs) ≡ true → are_after_all (names_of fs) (names_of es) ≡ true
    → add_fields fs es ≡ put_fields fs es
behind [] es rise after = refl
behind (f ∷ fs) es rise after =
    let now : add_field f.0 f.1 es ≡ put_field f.0 f.1 es = field_behind f.0 f.1 es (grind arith) in
    let later : are_after_all (names_of fs) (names_of (add_field f.0 f.1 es)) ≡ true = still_after (names_of fs) f.0 f.1 es (grind arith) (grind arith) in
    behind fs (add_field f.0 f.1 es) (grind arith) later ∙ ap (put_fields fs) now

-- fields whose names rise, each added behind the others
pub in_order : (fs : List Field) → names_rise (names_of fs) ≡ true → add_fields fs [] ≡ put_fields fs []
in_order fs rise = behind fs [] rise (none_before (names_of fs))

-- the address comes behind a target's other fields
pub address_behind : (t : Target) → add_field (codes "url") (text_field t.url) (target_members t) ≡ published_members t
unfolding target_members published_members
address_behind t =
    ap (add_field (codes "url") (text_field t.url)) (sym (in_order (target_fields t) refl))
    ∙ in_order (
    (codes "configurationName", text_field t.configuration) ∷
    (codes "latestRevision", truth_field t.latest) ∷
    (codes "percent", number_field t.percent) ∷
    (codes "revisionName", text_field t.revision) ∷
    (codes "tag", text_field t.tag) ∷
    (codes "url", text_field t.url) ∷ []) refl
