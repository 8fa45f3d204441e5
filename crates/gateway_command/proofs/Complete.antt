-- The end is the one that is due, where neither end failed.
use Rattle.std.proofs.Common.{◌≡◌, ℕ, ◌+◌, ◌<◌, ◌≤◌, Bool, true, false, ◌&&◌, List, [], ◌∷◌, ◌++◌, length, Option, Some, None, refl, sym, ap, subst, ◌∙◌, inl, inr, arith, rules, append-nil, length-append}
use Rattle.std.specs.Prelude.{◌⊎◌, IsTrue, nat_le, nat_eq, not}
use Rattle.std.specs.List.{list_all}
use Rattle.std.specs.Option.{IfSome}
use Rattle.std.specs.Io.KnownBytes.{Consumes}
use Rattle.std.proofs.lemmas.List.{append_assoc}
use Rattle.serve_io.specs.Causes.{Rose}
use Rattle.serve_io.specs.Gate.{Ends}
use Rattle.http_session.specs.Session.{IsAll}
use Rattle.json_tree.proofs.RoundTrip.{same_read}
use Rattle.gateway_pick.specs.Gateway.{View, Follows, follow_of}
use Rattle.gateway_command.specs.declared.command.PickEnd.{PickEnd}
use Rattle.gateway_command.specs.declared.command.PickEnd.TheVariants.{Done, Refused, ReadFault, WriteFault, TooLong, Memory}
use Rattle.gateway_command.specs.Lines.{most_bytes, feed, is_line, lines_bytes, new_gateway, FollowsLine, FollowsAll, IsRefused, RefusesLine}
use Rattle.gateway_command.specs.Reads.{most_read, HasFollowed}
use Rattle.gateway_command.specs.Leaves.{Leaves, IsDue, IsComplete}

-- ---- a line is followed in one way

some_is : {A : Type 0} (o : Option A) (a b : A) → o ≡ Some a → o ≡ Some b → a ≡ b
some_is o a b p q = cc

follows_once : (body : List ℕ) (old a b : View) → Follows body old a → Follows body old b → a ≡ b
follows_once body old a b f g =
    let same : f.json ≡ g.json = same_read body f.json g.json f.read.reading.1 g.read.reading.1 in
    some_is (follow_of g.json old) a b (ap (λ j. follow_of j old) (sym same) ∙ f.followed) g.followed

line_once : (line : List ℕ) (old a b : View) → FollowsLine old line a → FollowsLine old line b → a ≡ b
line_once line old a b (inl (none, same)) (inl (none', same')) = same ∙ sym same'
line_once line old a b (inl (none, same)) (inr (some, g)) = absurd (some none)
line_once line old a b (inr (some, f)) (inl (none, same)) = absurd (some none)
line_once line old a b (inr (some, f)) (inr (some', g)) = follows_once line old a b f g

not_both : (line : List ℕ) (old new : View) → FollowsLine old line new → IsRefused line old → ⊥
not_both line old new (inl (none, same)) r = r.some none
not_both line old new (inr (some, f)) r = r.refused new f

-- ---- bytes are cut into lines in one way

and_left : (a b : Bool) → (a && b) ≡ true → a ≡ true
and_left true b e = refl
and_left false b e = cc

and_right : (a b : Bool) → (a && b) ≡ true → b ≡ true
and_right true b e = e
and_right false b e = cc

-- no line holds a line feed
no_feed : (front rest : List ℕ) → IsTrue (is_line (front ++ feed ∷ rest)) → ⊥
no_feed [] rest e = cc
no_feed (b ∷ front) rest e = no_feed front rest (and_right (not (nat_eq b feed)) (is_line (front ++ feed ∷ rest)) e)

tail_is : (a b : ℕ) (xs ys : List ℕ) → a ∷ xs ≡ b ∷ ys → xs ≡ ys
tail_is a b xs ys e = cc

head_is : (a b : ℕ) (xs ys : List ℕ) → a ∷ xs ≡ b ∷ ys → a ≡ b
head_is a b xs ys e = cc

-- two lines with a line feed behind each are the same line, and the same follows
same_line : (l m more rest : List ℕ) → IsTrue (is_line l) → IsTrue (is_line m) → l ++ feed ∷ more ≡ m ++ feed ∷ rest → (l ≡ m) × (more ≡ rest)
same_line [] [] more rest p q e = (refl, tail_is feed feed more rest e)
same_line [] (b ∷ m) more rest p q e = absurd (no_feed [] m (subst (λ x. IsTrue (is_line (x ∷ m))) (sym (head_is feed b more (m ++ feed ∷ rest) e)) q))
same_line (a ∷ l) [] more rest p q e = absurd (no_feed [] l (subst (λ x. IsTrue (is_line (x ∷ l))) (head_is a feed (l ++ feed ∷ more) rest e) p))
same_line (a ∷ l) (b ∷ m) more rest p q e =
    let tails : l ++ feed ∷ more ≡ m ++ feed ∷ rest = tail_is a b (l ++ feed ∷ more) (m ++ feed ∷ rest) e in
    let ih = same_line l m more rest (and_right _ (is_line l) p) (and_right _ (is_line m) q) tails in
    (ap (λ x. x ∷ l) (head_is a b (l ++ feed ∷ more) (m ++ feed ∷ rest) e) ∙ ap (λ xs. b ∷ xs) ih.0, ih.1)

-- a line in front of another one with a line feed behind it is no longer
no_longer : (l m more rest : List ℕ) → IsTrue (is_line m) → l ++ feed ∷ more ≡ m ++ rest → length m ≤ length l
no_longer l [] more rest q e = omega arith
no_longer [] (b ∷ m) more rest q e = absurd (no_feed [] m (subst (λ x. IsTrue (is_line (x ∷ m))) (sym (head_is feed b more (m ++ rest) e)) q))
no_longer (a ∷ l) (b ∷ m) more rest q e =
    let ih : length m ≤ length l = no_longer l m more rest (and_right _ (is_line m) q) (tail_is a b (l ++ feed ∷ more) (m ++ rest) e) in omega (arith, ih)

short_of : (n : ℕ) → IsTrue (nat_le n most_bytes) → n ≤ most_bytes
short_of n e = search rules

group : (l more last : List ℕ) → l ++ feed ∷ [] ++ more ++ last ≡ l ++ feed ∷ (more ++ last)
group l more last = append_assoc (l ++ feed ∷ []) more last ∙ append_assoc l (feed ∷ []) (more ++ last)

regroup : (n more m rest : List ℕ) → n ++ feed ∷ [] ++ more ++ m ++ rest ≡ n ++ feed ∷ (more ++ m ++ rest)
regroup n more m rest =
    ap (λ xs. xs ++ rest) (append_assoc (n ++ feed ∷ []) more m ∙ append_assoc n (feed ∷ []) (more ++ m)) ∙ append_assoc n (feed ∷ (more ++ m)) rest

-- ---- what is followed to the end isn't refused

abbrev Refuses : List ℕ → List ℕ → View → Type 0 → Type 0
Refuses line rest view IsLast = (most_bytes < length line) ⊎ ((((later : List ℕ) × (rest ≡ feed ∷ later)) ⊎ ((rest ≡ []) × IsLast)) × IsRefused line view)

abbrev few_lines : List (List ℕ) → Bool
few_lines lines = list_all (λ l. nat_le (length l) most_bytes) lines

clash : (IsLast : Type 0) (ls ms : List (List ℕ)) (last m rest : List ℕ) (start before after there : View)
    → lines_bytes ls ++ last ≡ lines_bytes ms ++ m ++ rest
    → IsTrue (list_all is_line ls) → IsTrue (is_line last) → IsTrue (few_lines ls) → length last ≤ most_bytes
    → IsTrue (list_all is_line ms) → IsTrue (is_line m)
    → FollowsAll start ls before → FollowsLine before last after → FollowsAll start ms there → Refuses m rest there IsLast → ⊥
clash IsLast [] [] last m rest start before after there e ps p few short qs q f g h (inl long) =
    omega (arith, ap length e, length-append m rest, short, long)
clash IsLast [] [] last m rest start before after there e ps p few short qs q f g h (inr (inl (later, is), refused)) =
    no_feed m later (subst (λ xs. IsTrue (is_line xs)) (e ∙ ap (λ xs. m ++ xs) is) p)
clash IsLast [] [] last m rest start before after there e ps p few short qs q f g h (inr (inr (none, end), refused)) =
    let same : last ≡ m = e ∙ (ap (λ xs. m ++ xs) none ∙ append-nil m) in
    let at : before ≡ there = f ∙ sym h in
    not_both m there after (subst (λ v. FollowsLine v m after) at (subst (λ xs. FollowsLine before xs after) same g)) refused
clash IsLast [] (n ∷ ms) last m rest start before after there e ps p few short qs q f g h refuses =
    no_feed n (lines_bytes ms ++ m ++ rest) (subst (λ xs. IsTrue (is_line xs)) (e ∙ regroup n (lines_bytes ms) m rest) p)
clash IsLast (l ∷ ls) [] last m rest start before after there e ps p few short qs q f g h (inl long) =
    let less : length m ≤ length l = no_longer l m (lines_bytes ls ++ last) rest q (sym (group l (lines_bytes ls) last) ∙ e) in
    omega (arith, less, short_of (length l) (and_left _ (list_all (λ l. nat_le (length l) most_bytes) ls) few), long)
clash IsLast (l ∷ ls) [] last m rest start before after there e ps p few short qs q f g h (inr (inl (later, is), refused)) =
    let same : l ≡ m = (same_line l m (lines_bytes ls ++ last) later (and_left _ (list_all is_line ls) ps) q (sym (group l (lines_bytes ls) last) ∙ (e ∙ ap (λ xs. m ++ xs) is))).0 in
    not_both m there f.0 (subst (λ v. FollowsLine v m f.0) (sym h) (subst (λ xs. FollowsLine start xs f.0) same f.1)) refused
clash IsLast (l ∷ ls) [] last m rest start before after there e ps p few short qs q f g h (inr (inr (none, end), refused)) =
    no_feed l (lines_bytes ls ++ last) (subst (λ xs. IsTrue (is_line xs)) (sym (sym (group l (lines_bytes ls) last) ∙ (e ∙ (ap (λ xs. m ++ xs) none ∙ append-nil m)))) q)
clash IsLast (l ∷ ls) (n ∷ ms) last m rest start before after there e ps p few short qs q f g h refuses =
    let both = same_line l n (lines_bytes ls ++ last) (lines_bytes ms ++ m ++ rest) (and_left _ (list_all is_line ls) ps) (and_left _ (list_all is_line ms) qs)
    (sym (group l (lines_bytes ls) last) ∙ (e ∙ regroup n (lines_bytes ms) m rest)) in
    let middle : f.0 ≡ h.0 = line_once n start f.0 h.0 (subst (λ xs. FollowsLine start xs f.0) both.0 f.1) h.1 in
    clash IsLast ls ms last m rest h.0 before after there both.1 (and_right _ (list_all is_line ls) ps) p
    (and_right _ (list_all (λ l. nat_le (length l) most_bytes) ls) few) short (and_right _ (list_all is_line ms) qs) q
    (subst (λ v. FollowsAll v ls before) middle f.2) g h.2 refuses

pub apart : (left : Option (List ℕ)) (all : List ℕ) (view : View) (IsLast : Type 0) → HasFollowed left all view → RefusesLine all IsLast → ⊥
apart left all view IsLast f r =
    clash IsLast f.read.lines r.lines f.last r.line r.rest new_gateway f.before view r.view (sym f.read.is ∙ r.is)
    f.read.whole f.read.unended f.read.few f.read.short r.whole r.unended f.read.follows f.end r.follows r.refused

-- ---- the end that is due

whole_of : (left : Option (List ℕ)) (all bytes : List ℕ) → left ≡ Some all → IsAll left bytes → bytes ≡ all
whole_of None all bytes told whole = absurd cc
whole_of (Some xs) all bytes told whole = let same : xs ≡ all = cc in sym whole ∙ same

too_many : (left rest : Option (List ℕ)) (all bytes : List ℕ) → left ≡ Some all → Consumes left rest bytes → length bytes ≡ most_read → length all < most_read → ⊥
too_many None rest all bytes told took long short = cc
too_many (Some xs) None all bytes told took long short = took
too_many (Some xs) (Some ys) all bytes told took long short =
    let same : xs ≡ all = cc in
    let sum : length all ≡ length bytes + length ys = ap length (sym same ∙ took) ∙ length-append bytes ys in
    omega (arith, sum, short, long)

-- a line that is refused in the bytes that were taken is refused in all of them
in_all : (left rest : Option (List ℕ)) (all bytes : List ℕ) → left ≡ Some all → Consumes left rest bytes → RefusesLine bytes (IsAll left bytes)
    → RefusesLine all (IsAll left all)
in_all None rest all bytes told took r = absurd cc
in_all (Some xs) None all bytes told took r = absurd took
in_all (Some xs) (Some ys) all bytes told took r = by r.refused
  where
    same : xs ≡ all
    same = cc

    more : all ≡ lines_bytes r.lines ++ r.line ++ (r.rest ++ ys)
    more = sym same ∙ (took ∙ (ap (λ bs. bs ++ ys) r.is ∙ append_assoc (lines_bytes r.lines ++ r.line) r.rest ys))

    by : Refuses r.line r.rest r.view (IsAll (Some xs) bytes) → RefusesLine all (IsAll (Some xs) all)
    by (inl long) = record {
      lines = r.lines;
      line = r.line;
      rest = r.rest ++ ys;
      view = r.view;
      is = more;
      whole = r.whole;
      unended = r.unended;
      few = r.few;
      follows = r.follows;
      refused = inl long;
    }
    by (inr (inl (later, is), refused)) = record {
      lines = r.lines;
      line = r.line;
      rest = r.rest ++ ys;
      view = r.view;
      is = more;
      whole = r.whole;
      unended = r.unended;
      few = r.few;
      follows = r.follows;
      refused = inr (inl (later ++ ys, ap (λ bs. bs ++ ys) is), refused);
    }
    by (inr (inr (none, end), refused)) = subst (λ bs. RefusesLine bs (IsAll (Some xs) bs)) (whole_of (Some xs) all bytes told end) r

due : (host : List ℕ) (first count : ℕ) (old new : Ends) (end : PickEnd) (all : List ℕ) → old.left ≡ Some all → Leaves host first count old new end
    → ¬ (Rose old.reads_failed new.reads_failed) → ¬ (Rose old.writes_failed new.writes_failed) → IsDue old.left all end
due host first count old new Done all told (f, written) reads writes = record {
  followed = λ view g. inl refl;
  refused = λ short r. absurd (apart old.left all f.view (IsAll old.left all)
      (subst (λ bs. HasFollowed old.left bs f.view) (whole_of old.left all f.bytes told f.followed.all) f.followed) r);
}
due host first count old new Refused all told none reads writes = record {
  followed = λ view g. absurd (apart old.left all view (IsAll old.left all) g (in_all old.left new.left all none.bytes told none.consumed none.is.1));
  refused = λ short r. inl refl;
}
due host first count old new ReadFault all told (rose, none) reads writes = absurd (reads rose)
due host first count old new WriteFault all told cut reads writes = absurd (writes cut.0)
due host first count old new TooLong all told none reads writes = record {
  followed = λ view g. absurd (too_many old.left new.left all none.bytes told none.consumed none.is.0 g.short);
  refused = λ short r. absurd (too_many old.left new.left all none.bytes told none.consumed none.is.0 short);
}
due host first count old new Memory all told none reads writes = record { followed = λ view g. inr refl; refused = λ short r. inr refl }

pub complete : (host : List ℕ) (first count : ℕ) (old new : Ends) (end : PickEnd) → Leaves host first count old new end → IsComplete old new end
complete host first count old new end leaves = by_left old.left refl
  where
    by_left : (left : Option (List ℕ)) → old.left ≡ left
        → IfSome left (λ all. ¬ (Rose old.reads_failed new.reads_failed) → ¬ (Rose old.writes_failed new.writes_failed) → IsDue old.left all end)
    by_left None told = tt
    by_left (Some all) told = λ reads writes. due host first count old new end all told leaves reads writes
