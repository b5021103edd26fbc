-- A line begins: all of its turn is due.
use Rattle.std.proofs.Common.{◌≡◌, ◌<◌, ℕ, Bool, false, IsTrue, Some, List, [], refl, inl, sym, ap, ◌∙◌, arith, append-nil}
use Rattle.graph_model.specs.Served.{Storage}
use Rattle.graph_model.specs.declared.ask.Reply.{Reply}
use Rattle.graph_model.specs.declared.ask.Reply.TheVariants as replies
use Rattle.type_dictionary.specs.Records.{records_from}
use Rattle.session_model.specs.Answer.{State, Turn, turn}
use Rattle.session.specs.Dealing.{AfterPrint, AfterReply, AwaitsLine, ComesNearer, MayGive}
use Rattle.session_lines.specs.Due.{Replied}
use Rattle.session.specs.Fitting.{Fits, TakesReply}
use Rattle.session_lines.specs.Limits.{most_bytes}
use Rattle.session_lines.specs.Stands.{Admits}
use Rattle.session_lines.specs.declared.memory.Memory.{Memory}
use Rattle.session_lines.specs.declared.outcome.Phase.{Phase}
use Rattle.session_lines.specs.declared.outcome.Phase.TheVariants as phases
use Rattle.session_lines.specs.declared.outcome.Waiting.{Waiting}
use Rattle.session_lines.specs.declared.outcome.Waiting.TheVariants as waits
use Rattle.session.specs.declared.session.Given.{Given}
use Rattle.session.specs.declared.session.Given.TheVariants as given
use Rattle.session.specs.Sessions.{SessionView as Session}
use Rattle.plain_storage.specs.Images.{OtherFilesStay}
use Rattle.plain_storage.specs.Keeping.{Keeps, Plain, held_in, storage_of}
use Rattle.store_run.specs.Serving.{IsAt}
use Rattle.store_run.specs.Within.{IsNoLine, IsWithin, LineBegun, StandsFor, any_record}
use Rattle.store_run.proofs.LineMakes.{line_makes_one}

-- the turn of a line over what a storage holds
abbrev pub begun_at : State → Plain → (line written : List ℕ) → LineBegun
begun_at now plain line written = record { turn = turn most_bytes now line; held = held_in plain now.types; written = written }

pub line_begins : (told kept : Bool) (now : State) (session : Session) (plain : Plain) (line text : List ℕ) (reads : ℕ → List ℕ) (written : List ℕ) → IsAt session plain now
    → (IsTrue kept → Keeps plain now.types reads) → text ≡ line → IsWithin told kept (begun_at now plain line written) (StandsFor (Some (given.Line text)) session) plain reads written
line_begins told kept now session plain line text reads written at keeps same = record {
  types = now.types;
  due = turn most_bytes now line;
  put = [];
  stands = (at.waits, record { state = now; stands = at.stands; due_is = ap (turn most_bytes now) (sym same) });
  makes = line_makes_one now line plain.graph plain.stores_log.count plain.next_id at.stands.stands.sound at.stands.stands.graph;
  text = refl;
  state = refl;
  whole = inl refl;
  stage = inl (record { put_none = refl; records = refl; stores = refl; held_is = refl });
  keeps = keeps;
  wrote = λ t. sym (append-nil written);
}

-- where nothing is said of the disk, nothing is to be shown of it
pub not_kept : {P : Type 0} → IsTrue false → P
not_kept kept = absurd cc

pub any_admitted : Admits any_record
any_admitted types desc few right = refl

-- behind a step the end of the line is nearer
pub comes_nearer : (next : Given) (before now : ℕ) → IsNoLine (Some next) → ComesNearer next before now → now < before
comes_nearer (given.Line text) before now no_line nearer = absurd no_line
comes_nearer (given.Reply reply) before now no_line nearer = nearer
comes_nearer given.Printed before now no_line nearer = nearer

-- ---- what may be given fits

line_fits : (waiting : Waiting) (text : List ℕ) → AwaitsLine waiting → Fits (given.Line text) waiting
line_fits waits.ForLine text waits = tt
line_fits (waits.ForReply phase) text waits = absurd waits
line_fits waits.ForPrinted text waits = absurd waits
line_fits (waits.ForNextLine export) text waits = absurd waits
line_fits waits.GivenUp text waits = absurd waits

reply_taken : (phase : Phase) (reply : Reply) (memory : Memory) (storage : Storage) (due : Turn) → Replied phase reply memory storage due → TakesReply phase reply
reply_taken (phases.Saying text) reply memory storage due replied = tt
reply_taken (phases.Storing count) (replies.Stored number) memory storage due replied = tt
reply_taken phases.Collecting (replies.Count count) memory storage due replied = tt
reply_taken (phases.Looking loading purpose) (replies.Found entity) memory storage due replied = tt
reply_taken (phases.Holding purpose) replies.Held memory storage due replied = tt
reply_taken (phases.Exporting export) (replies.Found entity) memory storage due replied = tt
reply_taken _ _ memory storage due replied = absurd replied

reply_fits : (waiting : Waiting) (reply : Reply) (memory : Memory) (storage : Storage) (due : Turn) → AfterReply waiting reply memory storage due → Fits (given.Reply reply) waiting
reply_fits (waits.ForReply phase) reply memory storage due replied = reply_taken phase reply memory storage due replied
reply_fits waits.ForLine reply memory storage due replied = absurd replied
reply_fits waits.ForPrinted reply memory storage due replied = absurd replied
reply_fits (waits.ForNextLine export) reply memory storage due replied = absurd replied
reply_fits waits.GivenUp reply memory storage due replied = absurd replied

printed_fits : (waiting : Waiting) (memory : Memory) (storage : Storage) (due : Turn) → AfterPrint waiting memory storage due → Fits given.Printed waiting
printed_fits waits.ForPrinted memory storage due behind = tt
printed_fits (waits.ForNextLine export) memory storage due behind = tt
printed_fits waits.ForLine memory storage due behind = absurd behind
printed_fits (waits.ForReply phase) memory storage due behind = absurd behind
printed_fits waits.GivenUp memory storage due behind = absurd behind

given_fits : (next : Given) (session : Session) (storage : Storage) (due : Turn) → MayGive next session storage due → Fits next session.waiting
given_fits (given.Line text) session storage due may = line_fits session.waiting text may.0
given_fits (given.Reply reply) session storage due may = reply_fits session.waiting reply session.memory storage due may
given_fits given.Printed session storage due may = printed_fits session.waiting session.memory storage due may

-- what stands over some storage fits
pub fits_within : (told kept : Bool) (line : LineBegun) (next : Given) (session : Session) (plain : Plain) (reads : ℕ → List ℕ) (written : List ℕ)
    → IsWithin told kept line (StandsFor (Some next) session) plain reads written → Fits next session.waiting
fits_within told kept line next session plain reads written within = given_fits next session (storage_of plain (records_from 16 within.types)) within.due within.stands

-- the other files stay over two steps
pub others_stay : (reads0 reads1 reads2 : ℕ → List ℕ) (leaves0 leaves1 leaves2 : ℕ → List ℕ → Bool) → OtherFilesStay reads0 reads1 leaves0 leaves1 → OtherFilesStay reads1 reads2 leaves1 leaves2
    → OtherFilesStay reads0 reads2 leaves0 leaves2
others_stay reads0 reads1 reads2 leaves0 leaves1 leaves2 first second = record {
  reads = λ f a b. second.reads f a b ∙ first.reads f a b;
  leaves = λ f a b. second.leaves f a b ∙ first.leaves f a b;
}
