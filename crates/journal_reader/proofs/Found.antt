-- The line of an entry is read as what was done.
use Rattle.std.proofs.Common.{◌≡◌, ℕ, List, ◌++◌, Some, Result, codes, ap, ◌∙◌, subst}
use Rattle.std.proofs.lemmas.List.{append_cancel_right}
use Rattle.resource_codec.specs.Reading.{Member}
use Rattle.resource_codec.specs.Sound.{Fits}
use Rattle.resource_codec.specs.Written.{object_of}
use Rattle.manifest_intake.specs.Bodies.{IsBody}
use Rattle.control_rules.specs.declared.settings.Settings.{Settings}
use Rattle.control_rules.specs.Slots.{ObjectEntry}
use Rattle.journal_text.specs.Lines.{header_of, line_of}
use Rattle.journal_text.specs.Texts.{line_bytes}
use Rattle.journal_text.specs.Reads.{line_text, CanHead, IsLegible}
use Rattle.journal_text.proofs.Forms.{header_fits, asking_fits, removal_fits, report_fits, look_fits, line_fits}
use Rattle.journal_reader.specs.declared.deeds.Deed.{Deed}
use Rattle.journal_reader.specs.declared.deeds.Deed.TheVariants.{Put, Remove, Report, Write}
use Rattle.journal_reader.specs.declared.deeds.Line.{Line}
use Rattle.journal_reader.specs.declared.error.ReadError.{ReadError}
use Rattle.journal_reader.specs.declared.headers.Header.{Header}
use Rattle.journal_reader.specs.Answers.{Reads}
use Rattle.journal_reader.specs.Deeds.{SaysLine}
use Rattle.journal_reader.specs.Headers.{header_in}
use Rattle.journal_reader.specs.Lines.{members_by, members_of, HasForm, IsLineOf}
use Rattle.journal_reader.proofs.Bodies.{body_of_line}
use Rattle.journal_reader.proofs.Says.{says}
use Rattle.journal_reader.proofs.Entries.{line_for}
use Rattle.journal_reader.proofs.HeaderSays.{header_again}

-- ---- line feeds

-- a line with its line feed is one without, and the line feed
pub with_feed : (ms : List Member) (bytes : List ℕ) → line_text ms ≡ bytes → line_bytes ms ≡ bytes ++ codes "\n"
unfolding line_bytes
with_feed ms bytes same = ap (λ t. t ++ codes "\n") same

pub without_feed : (ms : List Member) (bytes : List ℕ) → line_bytes ms ≡ bytes ++ codes "\n" → line_text ms ≡ bytes
unfolding line_bytes
without_feed ms bytes same = append_cancel_right (line_text ms) bytes (codes "\n") same

-- ---- what may be written

fits_by : (moment : ℕ) (deed : Deed) → Fits 32 (object_of (members_by moment deed))
fits_by moment (Put kind manifest) = asking_fits moment _
fits_by moment (Remove key) = removal_fits moment key
fits_by moment (Report told) = report_fits moment told.revision told.resources told.container
fits_by moment (Write key read_at seen) = look_fits moment key read_at seen

pub said_fits : (line : Line) → Fits 32 (object_of (members_of line))
said_fits line = fits_by line.moment line.deed

-- ---- lines

-- what is read of the line of an entry
pub record IsFound (bytes : List ℕ) (r : Result Line ReadError) (e : ObjectEntry) : Type 0 where
  pub line : Line
  pub reads : Reads r line
  pub text : line_text (members_of line) ≡ bytes
  pub tells : IsLineOf e line

abbrev pub ReadsLines : List ℕ → Result Line ReadError → Type 0
ReadsLines bytes r = (members : List Member) (line : Line) → IsBody bytes (Some (object_of members)) → SaysLine members line → Reads r line

pub line_found : (bytes : List ℕ) (r : Result Line ReadError) (e : ObjectEntry) → ReadsLines bytes r → IsLegible e → HasForm e → line_bytes (line_of e) ≡ bytes ++ codes "\n" → IsFound bytes r e
line_found bytes r e reads legible form has =
    let own = line_for e legible form in
    let text : line_text (line_of e) ≡ bytes = without_feed (line_of e) bytes has in
    let body : IsBody bytes (Some (object_of (line_of e))) = body_of_line bytes (line_of e) (line_fits e) legible.numbers legible.utf8 text in
    record {
      line = own.line;
      reads = reads (line_of e) own.line body (subst (λ ms. SaysLine ms own.line) own.members (says own.line own.asks));
      text = ap line_text own.members ∙ text;
      tells = own.tells;
    }

-- ---- headers

abbrev pub header_as : Settings → ℕ → Header
header_as settings now = record { settings = settings; moment = now }

abbrev pub ReadsHeaders : List ℕ → Result Header ReadError → Type 0
ReadsHeaders bytes r = (members : List Member) (header : Header) → IsBody bytes (Some (object_of members)) → header_in members ≡ Some header → Reads r header

pub header_found : (bytes : List ℕ) (r : Result Header ReadError) (settings : Settings) (now : ℕ) → ReadsHeaders bytes r → CanHead settings now
    → line_bytes (header_of settings now) ≡ bytes ++ codes "\n" → Reads r (header_as settings now)
header_found bytes r settings now reads heads has =
    let ms = header_of settings now in
    reads ms (header_as settings now) (body_of_line bytes ms (header_fits settings now) heads.numbers heads.utf8 (without_feed ms bytes has)) (header_again settings now)
