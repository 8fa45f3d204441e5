-- What a copier plans.
use Rattle.std.specs.Prelude.{◌≡◌, ℕ, ◌==◌, Bool, true, false, cond, List, Option, Some, None, refl}
use Rattle.std.proofs.Common.{subst}
use Rattle.version_store.specs.declared.write.Plan.{Plan}
use Rattle.version_store.specs.declared.write.Expect.{Expect}
use Rattle.version_store.specs.declared.write.Expect.TheVariants.{Absent, At}
use Rattle.version_store.specs.declared.write.Change.TheVariants.{Put}
use Rattle.version_store.specs.State.{find}
use Rattle.version_store.specs.Apply.{IsMakeable}
use Rattle.store_trial.specs.contracts.thing.KeyOrd.TheImpl as key_order
use Rattle.store_trial.specs.declared.thing.Thing.{Thing}
use Rattle.store_trial.specs.declared.thing.Key.{Key}
use Rattle.store_trial.specs.declared.thing.Actor.{Actor}
use Rattle.store_trial.specs.declared.thing.Kind.{Kind}
use Rattle.store_trial.specs.declared.thing.Kind.TheVariants.{Source, Copy}
use Rattle.store_trial.specs.declared.copier.Copier.{Copier}
use Rattle.store_trial.specs.declared.copier.CopyView.{CopyView}
use Rattle.store_trial.specs.declared.copier.Found.{Found}

abbrev pub CopyPlan : Type 0
CopyPlan = Plan Thing Kind Key ℕ Actor

abbrev pub put_copy : ℕ → Expect → Bool → ℕ → ℕ → CopyPlan
put_copy name expect guarded spec status =
    let key : Key = record { kind = Copy; name = name } in
    record { key = key; expect = expect; guarded = guarded; change = Put (record { key = key; stamp = record { version = 0; generation = 0; uid = 0; created = 0 }; spec = spec; status = status }) }

-- what is to be done about a name, by its source and its copy
abbrev pub by_source_and_copy : ℕ → ℕ → Option Thing → Option Thing → Option CopyPlan
by_source_and_copy status name None copy = None
by_source_and_copy status name (Some source) None = Some (put_copy name Absent false source.spec status)
by_source_and_copy status name (Some source) (Some copy) =
    cond (copy.spec == source.spec) None (Some (put_copy name (At copy.stamp.version) true source.spec copy.status))

-- the thing that stands under a key
abbrev pub standing : Key → List Thing → Option Thing
standing key st = find (λ (o : Thing). o.key) key_order.ghosts.cmp key st

abbrev pub copy_key : ℕ → Key
copy_key name = record { kind = Copy; name = name }

abbrev pub next_copy : Copier → List Thing → ℕ → ℕ → Option CopyPlan
next_copy r st name now = by_source_and_copy r.status name (standing (record { kind = Source; name = name }) st) (standing (copy_key name) st)

-- what a view keeps of a copy
abbrev pub found_of : Thing → Found
found_of copy = record { version = copy.stamp.version; spec = copy.spec; status = copy.status }

abbrev pub answer_by : ℕ → ℕ → Option ℕ → Option Found → Option CopyPlan
answer_by name status None found = None
answer_by name status (Some spec) None = Some (put_copy name Absent false spec status)
answer_by name status (Some spec) (Some found) = cond (found.spec == spec) None (Some (put_copy name (At found.version) true spec found.status))

-- the plan that a view means
abbrev pub answer_of : CopyView → Option CopyPlan
answer_of view = answer_by view.name view.status view.wanted view.found

abbrev Makeable : CopyPlan → Type 0
Makeable plan = IsMakeable {O = Thing} {D = Kind} {K = Key} {N = ℕ} {A = Actor} (λ o. o.key) plan

by_cond : (b : Bool) (x y : CopyPlan) → cond b None (Some x) ≡ Some y → x ≡ y
by_cond true x y e = cc
by_cond false x y e = cc

by_some : (x y : CopyPlan) → Some x ≡ Some y → x ≡ y
by_some x y e = cc

put_makeable : (name spec status : ℕ) (expect : Expect) (guarded : Bool) → Makeable (put_copy name expect guarded spec status)
put_makeable name spec status Absent guarded = record { key = refl; removal = tt }
put_makeable name spec status (At version) guarded = record { key = refl; removal = tt }

makeable_by : (status name : ℕ) (source copy : Option Thing) (plan : CopyPlan) → by_source_and_copy status name source copy ≡ Some plan → Makeable plan
makeable_by status name None copy plan e = cc
makeable_by status name (Some source) None plan e = subst Makeable (by_some _ _ e) (put_makeable name source.spec status Absent false)
makeable_by status name (Some source) (Some copy) plan e =
    subst Makeable (by_cond (copy.spec == source.spec) _ _ e) (put_makeable name source.spec copy.status (At copy.stamp.version) true)

pub copies_makeable : (r : Copier) (st : List Thing) (name now : ℕ) (plan : CopyPlan) → next_copy r st name now ≡ Some plan → IsMakeable (λ o. o.key) plan
copies_makeable r st name now plan e = makeable_by r.status name (standing (record { kind = Source; name = name }) st) (standing (copy_key name) st) plan e
