use Rattle.std.proofs.Common.{◌≡◌, ◌++◌, take, List, ℕ, nat_cmp, Less, Equal, Greater, ap, ◌∙◌, arith}
use Rattle.std.specs.Cmp.Lexicographic.{slice_cmp}
use Rattle.json_tree.proofs.Pairs.{put_at, passes, set_here, insert_here}
use Rattle.json_tree.proofs.members.Table.place_of.Goals as goal

pub returns-in-Equal : goal.returns-in-Equal
returns-in-Equal g c =
    let es = c.args.self.now.entries in
    let i = c.places.place in
    let e : List ℕ × g.row.T.Denot = c.at.result.now in
    let name = c.args.name.now in
    let same : slice_cmp nat_cmp name e.0 ≡ Equal = grind arith in (
      grind arith,
      λ v. c.places.invariant v ∙ ap (λ xs. take i es ++ xs) (put_at es i e (grind arith) c.at.ensures name v Equal same) ∙ set_here es i e (grind arith) c.at.ensures (name, v),
    )

pub places-preserved : goal.places-preserved
places-preserved g c =
    let es = c.args.self.now.entries in
    let i = c.places.place in
    let e : List ℕ × g.row.T.Denot = c.at.result.now in
    let name = c.args.name.now in
    let later : slice_cmp nat_cmp name e.0 ≡ Greater = grind arith in
    λ v. c.places.invariant v ∙ passes es i e (grind arith) c.at.ensures name v later

pub returns-in-Less : goal.returns-in-Less
returns-in-Less g c =
    let es = c.args.self.now.entries in
    let i = c.places.place in
    let e : List ℕ × g.row.T.Denot = c.at.result.now in
    let name = c.args.name.now in
    let before : slice_cmp nat_cmp name e.0 ≡ Less = grind arith in (
      grind arith,
      λ v. c.places.invariant v ∙ ap (λ xs. take i es ++ xs) (put_at es i e (grind arith) c.at.ensures name v Less before) ∙ insert_here es i e (grind arith) c.at.ensures (name, v),
    )
