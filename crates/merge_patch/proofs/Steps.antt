-- One step of the merge over tables.
use Rattle.std.proofs.Common.{◌≡◌, ◌+◌, ◌<◌, ◌≤◌, ℕ, true, List, ◌∷◌, length, drop, get_or, sym, ap, subst, ◌∙◌}
use Rattle.std.proofs.lemmas.List.{drop_more}
use Rattle.serde_json.specs.Data.{Data, Members, object, members_depth}
use Rattle.json_tree.specs.Tree.{data_of, depth_of, is_well, is_well_formed, values_are_well, rises, table_data}
use Rattle.json_tree.specs.declared.value.Json.{Json}
use Rattle.merge_patch.specs.Merge.{without, value_or_null, put_unless_null, merge_of, merged}
use Rattle.merge_patch.proofs.Names.{both}
use Rattle.merge_patch.proofs.Laws.{changed, put_back, well-change}
use Rattle.merge_patch.proofs.Tables.{well_at, depth_at}

pub item_well : (es : List (List ℕ × Json)) (i : ℕ) (e : List ℕ × Json) → i < length es → e ≡ get_or es i e → is_well (object (table_data es)) ≡ true → is_well_formed e.1 ≡ true
item_well es i e lt is w =
    let values = (both (rises (table_data es)) (values_are_well (table_data es)) w).1 in
    subst (λ (x : List ℕ × Json). is_well_formed x.1 ≡ true) (sym is) (well_at es i e values lt)

pub item_depth : (es : List (List ℕ × Json)) (i : ℕ) (e : List ℕ × Json) → i < length es → e ≡ get_or es i e → depth_of e.1 ≤ members_depth (table_data es)
item_depth es i e lt is = subst (λ (x : List ℕ × Json). depth_of x.1 ≤ members_depth (table_data es)) (sym is) (depth_at es i e lt)

pub record IsChanged (all new es : List (List ℕ × Json)) (i : ℕ) : Type 0 where
  pub well : is_well (object (table_data new)) ≡ true
  pub done : merged (table_data new) (table_data (drop (i + 1) es)) ≡ merged (table_data all) (table_data (drop i es))

pub one_change : (all new es : List (List ℕ × Json)) (i : ℕ) (e : List ℕ × Json) → i < length es → e ≡ get_or es i e → is_well (object (table_data all)) ≡ true → is_well (object (table_data es)) ≡ true
    → table_data new ≡ put_unless_null e.0 (merge_of (value_or_null e.0 (table_data all)) (data_of e.1)) (without e.0 (table_data all)) → IsChanged all new es i
one_change all new es i e lt is w v put =
    let k : List ℕ = e.0 in
    let d : Data = data_of e.1 in
    let same : table_data new ≡ changed k d (table_data all) = put ∙ put_back k d (table_data all) w in
    let next : drop i es ≡ e ∷ drop (i + 1) es = drop_more es i e lt ∙ ap (λ (x : List ℕ × Json). x ∷ drop (i + 1) es) (sym is) in
    record {
      well = subst (λ (ms : Members). is_well (object ms) ≡ true) (sym same) (well-change k d (table_data all) w (item_well es i e lt is v));
      done = ap (λ (ms : Members). merged ms (table_data (drop (i + 1) es))) same ∙ ap (λ (xs : List (List ℕ × Json)). merged (table_data all) (table_data xs)) (sym next);
    }
