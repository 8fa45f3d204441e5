-- Members without a put say no put, so of what they say nothing has to be good.
use Rattle.std.proofs.Common.{ℕ, Bool, true, false, cond, List, Option, Some, None, Result, Ok, Err, IfOk, codes, subst}
use Rattle.std.specs.Prelude.{IfSome, if◌then◌else◌}
use Rattle.std.specs.Str.{bytes_eq}
use Rattle.resource_codec.specs.Reading.{Member, under}
use Rattle.journal_reader.specs.declared.deeds.Deed.{Deed}
use Rattle.journal_reader.specs.declared.error.ReadError.{ReadError}
use Rattle.journal_reader.specs.Answers.{Gives}
use Rattle.journal_reader.specs.Members.{◌>>=◌, object, text, number}
use Rattle.journal_reader.specs.Words.{controller_named}
use Rattle.journal_reader.specs.Deeds.{name_in, key_in, removal_in, part_in, report_in, write_in, other_in, IsGoodDeed}

then_good : {A : Type 0} (o : Option A) (f : A → Option Deed) → ((x : A) → IfSome (f x) IsGoodDeed) → IfSome (o >>= f) IsGoodDeed
then_good None f h = tt
then_good (Some x) f h = h x

either : (b : Bool) (x y : Option Deed) → IfSome x IsGoodDeed → IfSome y IsGoodDeed → IfSome (cond b x y) IsGoodDeed
either true x y h k = h
either false x y h k = k

removal_good : (ms : List Member) → IfSome (removal_in ms) IsGoodDeed
unfolding removal_in
removal_good ms = then_good (object (under (codes "remove") ms)) _ (λ removed. then_good (key_in removed) _ (λ key. tt))

report_good : (ms : List Member) → IfSome (report_in ms) IsGoodDeed
unfolding report_in
report_good ms =
    then_good (object (under (codes "containerHealthy") ms)) _ (λ health. then_good (part_in health) _ (λ container. then_good (name_in ms) _ (λ revision.
    then_good (object (under (codes "resourcesAvailable") ms)) _ (λ available. then_good (part_in available) _ (λ resources. tt)))))

write_good : (actor : List ℕ) (ms : List Member) → IfSome (write_in actor ms) IsGoodDeed
unfolding write_in
write_good actor ms =
    then_good (controller_named actor) _ (λ controller. then_good (number (under (codes "readAt") ms)) _ (λ read_at.
    then_good (number (under (codes "seen") ms)) _ (λ seen. then_good (name_in ms) _ (λ name. tt))))

other_good : (ms : List Member) → IfSome (other_in ms) IsGoodDeed
unfolding other_in
other_good ms =
    then_good (text (under (codes "actor") ms)) _ (λ actor.
    either (bytes_eq actor (codes "client")) (removal_in ms) (if bytes_eq actor (codes "reporter") then report_in ms else write_in actor ms) (removal_good ms)
    (either (bytes_eq actor (codes "reporter")) (report_in ms) (write_in actor ms) (report_good ms) (write_good actor ms)))

given_good : (r : Result Deed ReadError) (o : Option Deed) → Gives (λ d. d) r o → IfSome o IsGoodDeed → IfOk r IsGoodDeed
given_good (Ok deed) o g h = subst (λ x. IfSome x IsGoodDeed) g h
given_good (Err e) o g h = tt

-- what is read of members without a put is no put
pub others_good : (ms : List Member) (r : Result Deed ReadError) → Gives (λ d. d) r (other_in ms) → IfOk r IsGoodDeed
others_good ms r g = given_good r (other_in ms) g (other_good ms)
