-- The number and the word of a status.
use Rattle.std.specs.Prelude.{ℕ, List, codes}
use Rattle.control_cli.specs.declared.status.Status.{Status}
use Rattle.control_cli.specs.declared.status.Status.TheVariants.{Done, Usage, ReadFault, WriteFault, Cut, GateFault, BadRequest, ManifestRefused, Memory, TooLong, PollRefused}

abbrev pub number_of : Status → ℕ
number_of Done = 0
number_of Usage = 2
number_of ReadFault = 3
number_of WriteFault = 4
number_of Cut = 5
number_of GateFault = 6
number_of BadRequest = 7
number_of ManifestRefused = 8
number_of Memory = 9
number_of TooLong = 10
number_of PollRefused = 11

abbrev pub word_of : Status → List ℕ
word_of Done = codes "Done"
word_of Usage = codes "Usage"
word_of ReadFault = codes "ReadFault"
word_of WriteFault = codes "WriteFault"
word_of Cut = codes "Cut"
word_of GateFault = codes "GateFault"
word_of BadRequest = codes "BadRequest"
word_of ManifestRefused = codes "ManifestRefused"
word_of Memory = codes "Memory"
word_of TooLong = codes "TooLong"
word_of PollRefused = codes "PollRefused"
