use Rattle.std.proofs.Common.{◌≡◌, List, ℕ, true, take, length, sym, ap, subst, ◌∙◌, arith, nat_cmp}
use Rattle.std.proofs.lemmas.List.{take_all, drop_all}
use Rattle.std.specs.Cmp.Lexicographic.{slice_cmp}
use Rattle.std.specs.Ordering.{is_ge}
use Rattle.json_tree.specs.Tree.{is_after_all, names_of}
use Rattle.object_writer.specs.Places.{begins_before}
use Rattle.object_writer.proofs.Splits.{one_before, first_behind, before_of, not_before_of}
use Rattle.object_writer.proofs.places.place_before.Goals as goal

pub places-preserved : goal.places-preserved
places-preserved g c =
    let l = c.places in
    let e : List ℕ × g.row.T.Denot = c.index-entries-place.result in
    let lt = before_of _ (c.if-ge.ensures ∙ ap (λ k. is_ge (slice_cmp nat_cmp k c.args.name.now)) (c.as_str.ensures ∙ ap (λ (x : List ℕ × g.row.T.Denot). x.0) (sym c.index-entries-place.is))) in
    one_before c.args.entries.now l.place e c.places-test.true c.index-entries-place.is c.args.name.now lt l.invariant

pub returns : goal.returns
returns g c =
    let l = c.places in
    let es = c.args.entries.now in
    let all : take l.place es ≡ take (length es) es = take_all l.place es (omega arith) ∙ sym (take_all (length es) es (omega arith)) in
    record {
      within = omega arith;
      before = subst (λ xs. is_after_all c.args.name.now (names_of xs) ≡ true) all l.invariant;
      behind = ap (begins_before c.args.name.now) (drop_all (length es) es (omega arith));
    }

pub returns-then-ge : goal.returns-then-ge
returns-then-ge g c =
    let l = c.places in
    let e : List ℕ × g.row.T.Denot = c.index-entries-place.result in
    let not = not_before_of _ (c.if-ge.ensures ∙ ap (λ k. is_ge (slice_cmp nat_cmp k c.args.name.now)) (c.as_str.ensures ∙ ap (λ (x : List ℕ × g.row.T.Denot). x.0) (sym c.index-entries-place.is))) in
    record {
      within = omega (arith, c.places-test.true);
      before = l.invariant;
      behind = first_behind c.args.entries.now l.place e c.places-test.true c.index-entries-place.is c.args.name.now not;
    }
