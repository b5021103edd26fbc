-- What a disk is opened with is right for a session.
use Rattle.std.proofs.Common.{◌≡◌, ◌≢◌, ℕ, zero, suc, Bool, true, false, List, [], ◌∷◌, Some, Result, Ok, Err, IfOk, subst, sym, ap, refl}
use Rattle.std.specs.List.{AllByRecursion}
use Rattle.std.specs.Prelude.{codes, slice_get}
use Rattle.std.specs.Str.{bytes_eq}
use Rattle.std.proofs.lemmas.Slice.Eq.{bytes_eq-Decides}
use Rattle.graph_model.specs.Ids.{has}
use Rattle.graph_model.specs.Served.{SameIds}
use Rattle.graph_model.specs.declared.memory.NoMemory.{NoMemory}
use Rattle.type_desc.specs.declared.desc.TypeDesc.{TypeDesc}
use Rattle.type_dictionary.specs.Records.{IsRecorded, records_from}
use Rattle.session_model.specs.Sound.{AreTypes, IsRightGraph, IsRightType}
use Rattle.session_model.specs.Types.{is_root_type}
use Rattle.session_model.specs.Answer.{State}
use Rattle.session.specs.Dealing.{AwaitsLine}
use Rattle.session.specs.Fitting.{Fits}
use Rattle.session_lines.specs.Stands.{IsAtState}
use Rattle.session_lines.specs.declared.outcome.Waiting.{Waiting}
use Rattle.session_lines.specs.declared.outcome.Waiting.TheVariants as waits
use Rattle.session.specs.declared.session.Given.TheVariants as given
use Rattle.session.specs.Sessions.{SessionView as Session}
use Rattle.session_lines.proofs.TypeWords.{none_repeated}
use Rattle.plain_storage.specs.Keeping.{IsStart, Keeps, Plain, held_in, storage_of}
use Rattle.store_run.specs.Answer.{opened_on}
use Rattle.store_run.specs.Progress.{StandsBehind}
use Rattle.store_run.specs.Serving.{IsAt}
use Rattle.store_run.proofs.Appends.{held_first}

not_root : (name : List ℕ) → name ≢ codes "Root" → is_root_type name ≡ false
not_root name other = by (bytes_eq name (codes "Root")) refl
  where
    by : (b : Bool) → bytes_eq name (codes "Root") ≡ b → b ≡ false
    by true is = absurd (other ((bytes_eq-Decides name (codes "Root")).0 is))
    by false is = refl

right_type : (desc : TypeDesc) → IsRecorded desc → IsRightType desc
right_type desc recorded = record {
  spelled = recorded.sound.grammar;
  no_repeat = none_repeated desc.members recorded.sound.own_names;
  not_root = not_root desc.name recorded.named;
}

each_right : (types : List TypeDesc) → AllByRecursion IsRecorded types → (i : ℕ) (desc : TypeDesc) → slice_get types i ≡ Some desc → IsRightType desc
each_right [] each i desc is = cc
each_right (first ∷ types) each zero desc is = let same : first ≡ desc = cc in subst IsRightType same (right_type first each.0)
each_right (first ∷ types) each (suc i) desc is = each_right types each.1 i desc is

pub right_types : (p : Plain) (types : List TypeDesc) → IsStart p types → AreTypes types
right_types p types start = record { most = start.few; each = each_right types start.recorded }

pub right_graph : (p : Plain) (types : List TypeDesc) → IsStart p types → IsRightGraph types p.next_id p.graph
right_graph p types start = record {
  order = start.order;
  good_ids = start.good_ids;
  forms = λ x entity found. let form = start.sound.forms x entity found in record { desc = form.desc; known = form.known; values = form.values; holds = form.holds; root = form.root };
  sizes = start.sizes;
  whole = λ x y listed edge. start.sound.whole x y edge;
}

pub none_held : (p : Plain) (types : List TypeDesc) → IsStart p types → SameIds p.held []
none_held p types start x = ap (λ (l : List ℕ). has x l) start.none_held

-- a line fits where one is awaited, and nowhere else
awaits_line : (waiting : Waiting) → ((text : List ℕ) → Fits (given.Line text) waiting) → AwaitsLine waiting
awaits_line waits.ForLine fits = tt
awaits_line (waits.ForReply phase) fits = fits []
awaits_line waits.ForPrinted fits = fits []
awaits_line (waits.ForNextLine export) fits = fits []
awaits_line waits.GivenUp fits = fits []

-- a session that waits for its first line, and stands at the start
pub first_at : (p : Plain) (state : State) (r : Result Session NoMemory) → IfOk r (λ session. (text : List ℕ) → Fits (given.Line text) session.waiting)
    → IfOk r (λ session. IsAtState session.memory (storage_of p (records_from 16 state.types)) state) → IfOk r (λ session. IsAt session p state)
first_at p state (Ok session) fits stands = record { waits = awaits_line session.waiting fits; stands = stands }
first_at p state (Err e) fits stands = tt

-- and all stands at the start
pub first_stands : (p : Plain) (types : List TypeDesc) (session : Session) (reads : ℕ → List ℕ) → IsAt session p (opened_on (held_in p types)) → Keeps p types reads → StandsBehind (held_in p types) [] session p reads
first_stands p types session reads at_ keeps = record { at_ = at_; keeps = keeps; held = sym (held_first (held_in p types)) }
