-- What the command `serve` leaves, by its status.
use Rattle.std.specs.Prelude.{◌≡◌}
use Rattle.connection_loop.specs.declared.options.ServeOptions.{ServeOptions}
use Rattle.connection_loop.specs.declared.serving.ServeEnd.{ServeEnd}
use Rattle.connection_loop.specs.Serves.{Serving, LineSink, ServeLeaves}
use Rattle.command_words.specs.declared.serving.Serving.{Serving as Words}
use Rattle.control_cli.specs.declared.status.Status.{Status}
use Rattle.control_cli.specs.Ends.{status_of_serve}

-- what is served, by the words
abbrev pub serve_options : Words → ServeOptions
serve_options w = record { settings = w.options.settings; auto = w.options.auto; address = w.address; sessions = w.sessions }

-- the gate was served as the words say, and that ended as the status says
pub record ServeRuns (words : Words) (old new : Serving) (sink_old sink_new : LineSink) (status : Status) : Type 0 where
  pub end : ServeEnd
  pub is : status ≡ status_of_serve end
  pub leaves : ServeLeaves (serve_options words) old new sink_old sink_new end
