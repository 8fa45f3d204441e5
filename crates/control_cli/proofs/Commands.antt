-- What the parts of a run make of what it leaves.
use Rattle.std.proofs.Common.{◌≡◌, sym, subst}
use Rattle.http_session.specs.Session.{SessionState}
use Rattle.api_server.specs.Ask.{WorldView}
use Rattle.connection_loop.specs.declared.options.ServeOptions.{ServeOptions}
use Rattle.connection_loop.specs.declared.serving.ServeEnd.{ServeEnd}
use Rattle.connection_loop.specs.Serves.{Serving, LineSink, ServeLeaves}
use Rattle.command_words.specs.declared.command.Command.{Command}
use Rattle.command_words.specs.declared.command.Command.TheVariants.{Replay}
use Rattle.command_words.specs.declared.settings.Options.{Options}
use Rattle.command_words.specs.declared.serving.Serving.{Serving as Words}
use Rattle.control_cli.specs.declared.status.Status.{Status}
use Rattle.control_cli.specs.Ends.{status_of_serve}
use Rattle.control_cli.specs.Runs.{RefusesSettings, ReplayRuns, IsComplete}
use Rattle.control_cli.specs.Serves.{serve_options, ServeRuns}
use Rattle.control_cli.specs.Commands.{GateView, CommandLeaves}

pub serve_runs : (words : Words) (options : ServeOptions) (old new : Serving) (sink_old sink_new : LineSink) (end : ServeEnd) (status : Status)
    → options ≡ serve_options words → status ≡ status_of_serve end → ServeLeaves options old new sink_old sink_new end
    → ServeRuns words old new sink_old sink_new status
serve_runs words options old new sink_old sink_new end status same is leaves =
    record { end = end; is = is; leaves = subst (λ o. ServeLeaves o old new sink_old sink_new end) same leaves }

pub replay_leaves : (command : Command) (options : Options) (old new : SessionState WorldView) (gate_old gate_new : GateView) (status : Status)
    → command ≡ Replay options → ReplayRuns options old new status → (¬ (RefusesSettings options old.handler) → IsComplete old new status)
    → CommandLeaves command old new gate_old gate_new status
replay_leaves command options old new gate_old gate_new status is runs complete =
    subst (λ c. CommandLeaves c old new gate_old gate_new status) (sym is) (runs, complete)
