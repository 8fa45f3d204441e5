use Rattle.std.proofs.Common.{sym}
use Rattle.revision_gc.proofs.SettingSteps.{no_create, no_active, no_least, no_most, above, fits}
use Rattle.revision_gc.proofs.settings.read_settings.Goals as goal

pub returns-in_default : goal.returns-in_default
returns-in_default c = sym (no_create c.args.create.now c.args.active.now c.args.least.now c.args.most.now (sym c.in_default.ensures))

pub returns-in_default-time_in : goal.returns-in_default-time_in
returns-in_default-time_in c =
    sym (no_active c.args.create.now c.args.active.now c.args.least.now c.args.most.now c.in-Some.create (sym c.in-Some.ensures) (sym c.in_default-time_in.ensures))

pub returns-in_default-count_in : goal.returns-in_default-count_in
returns-in_default-count_in c =
    sym (no_least c.args.create.now c.args.active.now c.args.least.now c.args.most.now c.in-Some.create (sym c.in-Some.ensures)
    c.in-Some-time_in.active (sym c.in-Some-time_in.ensures) (sym c.in_default-count_in.ensures))

pub returns-in_default-most_in : goal.returns-in_default-most_in
returns-in_default-most_in c =
    sym (no_most c.args.create.now c.args.active.now c.args.least.now c.args.most.now c.in-Some.create (sym c.in-Some.ensures)
    c.in-Some-time_in.active (sym c.in-Some-time_in.ensures) c.in-Some-count_in.least (sym c.in-Some-count_in.ensures) (sym c.in_default-most_in.ensures))

pub returns-then-is_below : goal.returns-then-is_below
returns-then-is_below c =
    sym (above c.args.create.now c.args.active.now c.args.least.now c.args.most.now c.in-Some.create (sym c.in-Some.ensures)
    c.in-Some-time_in.active (sym c.in-Some-time_in.ensures) c.in-Some-count_in.least (sym c.in-Some-count_in.ensures)
    c.in-Some-most_in.most (sym c.in-Some-most_in.ensures) (sym c.if-is_below.ensures))

pub returns : goal.returns
returns c =
    sym (fits c.args.create.now c.args.active.now c.args.least.now c.args.most.now c.in-Some.create (sym c.in-Some.ensures)
    c.in-Some-time_in.active (sym c.in-Some-time_in.ensures) c.in-Some-count_in.least (sym c.in-Some-count_in.ensures)
    c.in-Some-most_in.most (sym c.in-Some-most_in.ensures) (sym c.if-is_below.ensures))
