-- The last entries of the keys, in order of key.
use Rattle.std.proofs.Common.{◌≡◌, ℕ, ◌+◌, List, [], ◌∷◌, ◌++◌, length, length-append, append_assoc, append-nil, Bool, true, false, cond, Some, Result, Ok, Err, Ordering, refl, sym, ap, subst, ◌∙◌, arith}
use Rattle.std.specs.Prelude.{map}
use Rattle.std.specs.Ordering.{is_eq}
use Rattle.std.specs.Option.{option_map}
use Rattle.std.specs.Cmp.{IsTotalOrder}
use Rattle.std.proofs.lemmas.Option.{slice_get-map, get_or_from_slice_get}
use Rattle.version_store.specs.declared.write.Entry.{Entry}
use Rattle.version_store.specs.State.{find, put}
use Rattle.version_store.specs.Journal.{last_from, last_version}
use Rattle.version_store.specs.Index.{Row, row_key, row_version, version_of_row, rows_from, last_rows, AreInOrder, keys_at, IsIndex, search_in, found, version_found, IsPlaceIn}
use Rattle.version_store.proofs.Keyed.{find-put, find-search, order-put}
use Rattle.version_store.proofs.Keys.{some_at}
use Rattle.version_store.proofs.Indexed.{AreIn, in-put, in-more, keys_at-versions, versions_within, entry_at_split}
use Rattle.version_store.proofs.States.{order-map}

ap_cond : {X Y : Type 0} (f : X → Y) (b : Bool) (x y : X) → f (cond b x y) ≡ cond b (f x) (f y)
ap_cond f true x y = refl
ap_cond f false x y = refl

version_at_place : {K : Type 0} (rows : List (Row K)) (place : Result ℕ ℕ) → IsPlaceIn place (length rows) → version_of_row (found rows place) ≡ version_found (map row_version rows) place
version_at_place rows (Err place) h = refl
version_at_place rows (Ok place) h =
    let there = some_at rows place h in
    ap version_of_row there.1 ∙ sym (get_or_from_slice_get (map row_version rows) place there.0.0 0 (slice_get-map row_version rows place ∙ ap (option_map row_version) there.1))

module _ {O D K N A : Type 0} (cmp : K → K → Ordering) where
  -- nothing more is said of a row's entry than its key
  abbrev pub IsRowOf : Entry O D K N A → Row K → Type 0
  IsRowOf entry row = Unit {0}

  abbrev pub RowsIn : List (Entry O D K N A) → List (Row K) → Type 0
  RowsIn entries rows = AreIn row_version row_key IsRowOf entries rows

  put_in : (before : List (Entry O D K N A)) (rows : List (Row K)) (entry : Entry O D K N A) → RowsIn before rows → RowsIn (before ++ entry ∷ []) (put row_key cmp (length before + 1, entry.key) rows)
  put_in before rows entry h =
      in-put row_version row_key IsRowOf cmp (before ++ entry ∷ []) (length before + 1, entry.key) rows
      (record { entry = entry; at = entry_at_split (before ++ entry ∷ []) before [] entry (length before) refl refl; key = refl; is = tt })
      (in-more row_version row_key IsRowOf before (entry ∷ []) rows h)

  rows_in_from : (before : List (Entry O D K N A)) (rows : List (Row K)) (entries : List (Entry O D K N A)) → RowsIn before rows → RowsIn (before ++ entries) (rows_from cmp (length before) rows entries)
  rows_in_from before rows [] h = rw (append-nil before) h
  rows_in_from before rows (entry ∷ entries) h =
      let more : length before + 1 ≡ length (before ++ entry ∷ []) = omega (arith, length-append before (entry ∷ [])) in
      let rows' = put row_key cmp (length before + 1, entry.key) rows in
      rw (← append_assoc before (entry ∷ []) entries)
      (subst (λ n. RowsIn ((before ++ entry ∷ []) ++ entries) (rows_from cmp n rows' entries)) (sym more) (rows_in_from (before ++ entry ∷ []) rows' entries (put_in before rows entry h)))

  -- the rows are of entries of the journal
  pub last_rows_in : (entries : List (Entry O D K N A)) → RowsIn entries (last_rows cmp entries)
  last_rows_in entries = rows_in_from [] [] entries tt

  pub keys_last : (entries : List (Entry O D K N A)) → keys_at entries (map row_version (last_rows cmp entries)) ≡ map row_key (last_rows cmp entries)
  keys_last entries = keys_at-versions row_version row_key IsRowOf entries (last_rows cmp entries) (last_rows_in entries)

  module _ (total : IsTotalOrder cmp) where
    rows_order_from : (n : ℕ) (rows : List (Row K)) (entries : List (Entry O D K N A)) → AreInOrder row_key cmp rows → AreInOrder row_key cmp (rows_from cmp n rows entries)
    rows_order_from n rows [] h = h
    rows_order_from n rows (entry ∷ entries) h = rows_order_from (n + 1) (put row_key cmp (n + 1, entry.key) rows) entries (order-put row_key cmp total (n + 1, entry.key) rows h)

    pub last_rows_order : (entries : List (Entry O D K N A)) → AreInOrder row_key cmp (last_rows cmp entries)
    last_rows_order entries = rows_order_from 0 [] entries tt

    -- the versions of the keys' last entries are an index
    pub last_index : (entries : List (Entry O D K N A)) → IsIndex cmp entries (map row_version (last_rows cmp entries))
    last_index entries = record {
      within = versions_within row_version row_key IsRowOf entries (last_rows cmp entries) (last_rows_in entries);
      ordered = rw (keys_last entries) (order-map row_key cmp (last_rows cmp entries) (last_rows_order entries));
    }

    last_from-rows : (key : K) (n : ℕ) (rows : List (Row K)) (entries : List (Entry O D K N A)) → last_from cmp key n (version_of_row (find row_key cmp key rows)) entries ≡ version_of_row (find row_key cmp key (rows_from cmp n rows entries))
    last_from-rows key n rows [] = refl
    last_from-rows key n rows (entry ∷ entries) =
        let row : Row K = (n + 1, entry.key) in
        ap (λ last. last_from cmp key (n + 1) last entries) (sym (ap_cond version_of_row (is_eq (cmp entry.key key)) (Some row) (find row_key cmp key rows)) ∙ sym (ap version_of_row (find-put row_key cmp total key row rows)))
        ∙ last_from-rows key (n + 1) (put row_key cmp row rows) entries

    -- the last version of a key is that of its row
    pub last_version-rows : (key : K) (entries : List (Entry O D K N A)) → last_version cmp entries key ≡ version_of_row (find row_key cmp key (last_rows cmp entries))
    last_version-rows key entries = last_from-rows key 0 [] entries

    -- what a search in the last versions finds
    pub last_version-found : (key : K) (entries : List (Entry O D K N A)) (lasts : List ℕ) (place : Result ℕ ℕ) → lasts ≡ map row_version (last_rows cmp entries) → IsPlaceIn place (length (last_rows cmp entries))
        → place ≡ search_in cmp key (keys_at entries lasts) → version_found lasts place ≡ last_version cmp entries key
    last_version-found key entries lasts place is within e =
        let rows = last_rows cmp entries in
        let place_is : place ≡ search_in cmp key (map row_key rows) = e ∙ ap (λ l. search_in cmp key (keys_at entries l)) is ∙ ap (search_in cmp key) (keys_last entries) in
        ap (λ l. version_found l place) is ∙ sym (version_at_place rows place within)
        ∙ ap (λ p. version_of_row (found rows p)) place_is ∙ sym (ap version_of_row (find-search row_key cmp total key rows (last_rows_order entries)))
        ∙ sym (last_version-rows key entries)
