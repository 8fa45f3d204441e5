-- What a command carries is within the limits.
use Rattle.std.proofs.Common.{◌≡◌, ℕ, ◌<◌, ◌≤◌, Bool, true, false, ◌&&◌, List, [], ◌∷◌, length, Option, Some, None, cond, codes, refl, subst, rules, arith}
use Rattle.std.specs.Prelude.{option_and_then, unwrap_or, nat_le}
use Rattle.command_words.specs.Options.{Word, value_of}
use Rattle.command_words.specs.Settings.{count_between, options_of}
use Rattle.command_words.specs.Serving.{sized, serving_of}
use Rattle.command_words.specs.Picking.{picking_of}
use Rattle.command_words.specs.Grammar.{IsCommand, IsWithin}
use Rattle.serve_names.specs.Counts.{count_of}
use Rattle.command_words.specs.declared.command.Command.{Command}
use Rattle.command_words.specs.declared.command.Command.TheVariants.{Replay, Serve, Check, Generate, Drill, Pick, Export}
use Rattle.command_words.specs.declared.serving.Serving.{Serving}
use Rattle.command_words.specs.declared.picking.Picking.{Picking}

then_some : {A B : Type 0} (f : A → Option B) (o : Option A) (b : B) → option_and_then f o ≡ Some b → (a : A) × (o ≡ Some a) × (f a ≡ Some b)
then_some f None b e = cc
then_some f (Some a) b e = (a, refl, e)

some_is : {A : Type 0} (a b : A) → Some a ≡ Some b → a ≡ b
some_is a b e = cc

guarded : {A : Type 0} (b : Bool) (x y : A) → cond b (Some x) None ≡ Some y → (b ≡ true) × (x ≡ y)
guarded true x y e = (refl, some_is x y e)
guarded false x y e = cc

and_both : (a b : Bool) → (a && b) ≡ true → (a ≡ true) × (b ≡ true)
and_both true b e = (refl, e)
and_both false b e = cc

le_of : (n m : ℕ) → nat_le n m ≡ true → n ≤ m
le_of n m e = search rules

sized_within : (text found : Word) → sized text ≡ Some found → (0 < length found) × (length found ≤ 255)
sized_within text found e =
    let g = guarded (nat_le 1 (length text) && nat_le (length text) 255) text found e in
    let both = and_both (nat_le 1 (length text)) (nat_le (length text) 255) g.0 in
    subst (λ (t : Word). (0 < length t) × (length t ≤ 255)) g.1 (omega (arith, le_of 1 (length text) both.0), le_of (length text) 255 both.1)

count_within : (least most : ℕ) (text : Word) (count : ℕ) → count_between least most text ≡ Some count → count ≤ most
count_within least most text count e =
    let (n, is, then) = then_some (λ c. cond (nat_le least c && nat_le c most) (Some c) None) (count_of text) count e in
    let g = guarded (nat_le least n && nat_le n most) n count then in
    let both = and_both (nat_le least n) (nat_le n most) g.0 in
    subst (λ c. c ≤ most) g.1 (le_of n most both.1)

serving_within : (value : Word → Option Word) (serving : Serving) → serving_of value ≡ Some serving → IsWithin (Serve serving)
unfolding serving_of
serving_within value serving e =
    let (text, t, e1) = then_some _ (value (codes "listen")) serving e in
    let (address, a, e2) = then_some _ (sized text) serving e1 in
    let (sessions, s, e3) = then_some _ (count_between 1 4294967295 (unwrap_or (value (codes "sessions")) (codes "4294967295"))) serving e2 in
    let (options, o, e4) = then_some _ (options_of (codes "30") value) serving e3 in
    subst (λ (w : Serving). IsWithin (Serve w)) (some_is _ serving e4) (sized_within text address a)

picking_within : (value : Word → Option Word) (picking : Picking) → picking_of value ≡ Some picking → IsWithin (Pick picking)
unfolding picking_of
picking_within value picking e =
    let (text, t, e1) = then_some _ (value (codes "host")) picking e in
    let (host, h, e2) = then_some _ (sized text) picking e1 in
    let (from, f, e3) = then_some _ (value (codes "first")) picking e2 in
    let (first, p, e4) = then_some _ (count_between 0 4294967295 from) picking e3 in
    let (many, m, e5) = then_some _ (value (codes "count")) picking e4 in
    let (count, q, e6) = then_some _ (count_between 1 100000 many) picking e5 in
    subst (λ (w : Picking). IsWithin (Pick w)) (some_is _ picking e6) (count_within 0 4294967295 from first p, count_within 1 100000 many count q)

pub command_within : (words : List Word) (command : Command) → IsCommand words command → IsWithin command
command_within [] command is = absurd is
command_within (word ∷ words) (Replay options) is = tt
command_within (word ∷ words) (Serve serving) is = serving_within (λ n. value_of n is.1.0) serving is.1.2
command_within (word ∷ words) Check is = tt
command_within (word ∷ words) (Generate count) is = count_within 1 500 is.1.0 count is.1.2
command_within (word ∷ words) (Drill count) is = count_within 1 500 is.1.0 count is.1.2
command_within (word ∷ words) (Pick picking) is = picking_within (λ n. value_of n is.1.0) picking is.1.2
command_within (word ∷ words) Export is = tt
