-- A run ends within a line: what was put and what the images hold then.
use Rattle.std.proofs.Common.{◌≡◌, ◌≢◌, ◌<◌, ℕ, Bool, IsTrue, List, [], ◌∷◌, ◌++◌, length, take, drop, refl, inl, inr, sym, ap, ◌∙◌, subst, arith, append_assoc}
use Rattle.std.proofs.lemmas.List.{take-append-drop}
use Rattle.graph_model.specs.declared.ask.Ask.{Ask}
use Rattle.graph_model.specs.declared.ask.Ask.TheVariants as asks
use Rattle.graph_model.specs.Served.{Storage}
use Rattle.type_dictionary.specs.Records.{records_from}
use Rattle.session_model.specs.Answer.{Turn}
use Rattle.session.specs.Dealing.{IsDueStep, Prints}
use Rattle.session_lines.specs.Due.{IsDue}
use Rattle.session.specs.Sessions.{SessionView as Session}
use Rattle.session.specs.declared.session.SessionStep.TheVariants as step
use Rattle.plain_storage.specs.Held.{IsPlainStored, PlainHeld}
use Rattle.plain_storage.specs.Images.{AreClean, EachPair}
use Rattle.plain_storage.specs.Keeping.{HoldsEither, IsNext, IsOverFull, Plain, held_in, storage_of}
use Rattle.store_run.specs.Answer.{held_behind}
use Rattle.store_run.specs.Full.{IsFullFor}
use Rattle.store_run.specs.Serving.{IsTurnCut}
use Rattle.store_run.specs.Within.{IsBehind, IsWithin, LineBegun, any_record}
use Rattle.store_run.specs.declared.stop.Stop.{Stop}
use Rattle.store_run.specs.declared.stop.Stop.TheVariants.{WriteFault, Full}
use Rattle.store_run.proofs.AskedWithin.{Follows, Stage, follows}
use Rattle.store_run.proofs.StepsWithin.{is_behind}

-- what the images hold is what is in memory
pub clean_images : (reads : ℕ → List ℕ) (leaves : ℕ → List ℕ → Bool) (held : PlainHeld) → AreClean reads leaves → IsPlainStored (reads 0) (reads 1) held
    → EachPair leaves (λ image0 image1. IsPlainStored image0 image1 held)
clean_images reads leaves held clean stored image0 image1 left0 left1 =
    subst (λ (i : List ℕ). IsPlainStored i image1 held) (sym (clean.stores image0 left0)) (subst (λ (i : List ℕ). IsPlainStored (reads 0) i held) (sym (clean.types image1 left1)) stored)

-- what is held at a stage is what was held before the line, or what is held behind it
stage_holds : (line : LineBegun) (due : Turn) (put : List ℕ) (held : PlainHeld) (image0 image1 : List ℕ) → Stage line due put held → IsPlainStored image0 image1 held
    → HoldsEither line.held (held_behind line.held line.turn) image0 image1
stage_holds line due put held image0 image1 (inl before) stored = inl (subst (λ (h : PlainHeld). IsPlainStored image0 image1 h) before.held_is stored)
stage_holds line due put held image0 image1 (inr behind) stored = inr (subst (λ (h : PlainHeld). IsPlainStored image0 image1 h) behind.held_is stored)

-- where a byte was put, it is what is held behind the line
begun_holds : (line : LineBegun) (due : Turn) (put : List ℕ) (held : PlainHeld) (image0 image1 : List ℕ) → 0 < length put → Stage line due put held → IsPlainStored image0 image1 held
    → IsPlainStored image0 image1 (held_behind line.held line.turn)
begun_holds line due put held image0 image1 some (inl before) stored = let none = ap length before.put_none in absurd (omega arith)
begun_holds line due put held image0 image1 some (inr behind) stored = subst (λ (h : PlainHeld). IsPlainStored image0 image1 h) behind.held_is stored

-- ---- between two steps

pub within_cut : (told kept : Bool) (line : LineBegun) (Stands : Storage → Turn → Type 0) (plain : Plain) (reads : ℕ → List ℕ) (written : List ℕ) (leaves : ℕ → List ℕ → Bool) (stop : Stop)
    → IsTrue told → IsTrue kept → AreClean reads leaves → stop ≢ Full → IsWithin told kept line Stands plain reads written → IsTurnCut line.turn line.held stop line.written written reads leaves
within_cut told kept line Stands plain reads written leaves stop t k clean other within = record {
  part = within.put;
  part_rest = within.due.text;
  answer_is = within.text;
  answered = within.wrote t;
  line_end = λ no_fault. within.whole;
  full = λ full. absurd (other full);
  images = λ image0 image1 left0 left1. stage_holds line within.due within.put (held_in plain within.types) image0 image1 within.stage (images image0 image1 left0 left1);
  begun = λ some image0 image1 left0 left1. begun_holds line within.due within.put (held_in plain within.types) image0 image1 some within.stage (images image0 image1 left0 left1);
}
  where
    images : EachPair leaves (λ image0 image1. IsPlainStored image0 image1 (held_in plain within.types))
    images = clean_images reads leaves (held_in plain within.types) clean (within.keeps k).stored

-- ---- at an ask that is not served

some_first : {A : Type 0} (l rest : List A) (x : A) → l ≡ x ∷ rest → 0 < length l
some_first l rest x e = let some = ap length e in omega arith

-- what the line is to keep is still due, nothing was put, and the log for it is over its limit
full_at : (line : LineBegun) (ask : Ask) (due : Turn) (put : List ℕ) (held : PlainHeld) (reads : ℕ → List ℕ) → Stage line due put held → IsOverFull ask reads → IsDue ask due
    → (put ≡ []) × IsFullFor line.turn reads
full_at line (asks.Store op) due put held reads (inl before) over is = (before.put_none, inl (record { due = some_first line.turn.stores _ op (sym before.stores ∙ is); over = over }))
full_at line (asks.KeepType text) due put held reads (inl before) over is = (before.put_none, inr (record { due = some_first line.turn.records _ text (sym before.records ∙ is); over = over }))
full_at line (asks.Store op) due put held reads (inr behind) over is = let none = ap length behind.stores in let some = ap length is in absurd (omega arith)
full_at line (asks.KeepType text) due put held reads (inr behind) over is = let none = ap length behind.records in let some = ap length is in absurd (omega arith)
full_at line (asks.Look x) due put held reads stage over is = absurd over
full_at line (asks.Hold xs) due put held reads stage over is = absurd over
full_at line (asks.Release xs) due put held reads stage over is = absurd over
full_at line asks.Collect due put held reads stage over is = absurd over
full_at line asks.Tidy due put held reads stage over is = absurd over

pub ask_cut : (told kept : Bool) (line : LineBegun) (ask : Ask) (session : Session) (plain : Plain) (reads : ℕ → List ℕ) (written : List ℕ) (reads' : ℕ → List ℕ) (leaves : ℕ → List ℕ → Bool) (stop : Stop)
    → IsTrue told → IsTrue kept → (stop ≡ Full → IsOverFull ask reads')
    → ((held next : PlainHeld) → IsPlainStored (reads 0) (reads 1) held → held.number ≡ plain.stores_log.count → held.next_id ≡ plain.next_id → IsNext ask held next
    → EachPair leaves (HoldsEither held next))
    → IsWithin told kept line (IsDueStep any_record (step.Ask ask) session) plain reads written → IsTurnCut line.turn line.held stop line.written written reads' leaves
ask_cut told kept line ask session plain reads written reads' leaves stop t k over images within = record {
  part = within.put;
  part_rest = within.due.text;
  answer_is = within.text;
  answered = within.wrote t;
  line_end = λ no_fault. within.whole;
  full = λ full. full_at line ask within.due within.put now reads' within.stage (over full) within.stands.due_next;
  images = λ image0 image1 left0 left1. holds image0 image1 (either image0 image1 left0 left1);
  begun = λ some image0 image1 left0 left1. begun image0 image1 some (either image0 image1 left0 left1);
}
  where
    now : PlainHeld
    now = held_in plain within.types

    behind : Follows line ask plain within.types within.due within.put
    behind = follows ask session line plain within.types within.due within.put within.stands within.stage within.makes

    either : EachPair leaves (HoldsEither now behind.next)
    either = images now behind.next (within.keeps k).stored refl refl behind.is_next

    holds : (image0 image1 : List ℕ) → HoldsEither now behind.next image0 image1 → HoldsEither line.held (held_behind line.held line.turn) image0 image1
    holds image0 image1 (inl stored) = stage_holds line within.due within.put now image0 image1 within.stage stored
    holds image0 image1 (inr stored) = stage_holds line _ within.put behind.next image0 image1 behind.stage stored

    begun : (image0 image1 : List ℕ) → 0 < length within.put → HoldsEither now behind.next image0 image1 → IsPlainStored image0 image1 (held_behind line.held line.turn)
    begun image0 image1 some (inl stored) = begun_holds line within.due within.put now image0 image1 some within.stage stored
    begun image0 image1 some (inr stored) = begun_holds line _ within.put behind.next image0 image1 some behind.stage stored

-- ---- at a print that fails

pub print_cut : (told kept : Bool) (line : LineBegun) (text : List ℕ) (session : Session) (plain : Plain) (reads : ℕ → List ℕ) (written new_written : List ℕ) (leaves : ℕ → List ℕ → Bool)
    (stop : Stop) (n : ℕ) → IsTrue told → IsTrue kept → AreClean reads leaves → stop ≡ WriteFault → new_written ≡ written ++ take n text
    → IsWithin told kept line (IsDueStep any_record (step.Print text) session) plain reads written → IsTurnCut line.turn line.held stop line.written new_written reads leaves
print_cut told kept line text session plain reads written new_written leaves stop n t k clean is put within = record {
  part = within.put ++ take n text;
  part_rest = drop n text ++ prints.rest;
  answer_is = within.text ∙ (ap (λ (l : List ℕ). within.put ++ l) (prints.text ∙ split) ∙ sym (append_assoc within.put (take n text) (drop n text ++ prints.rest)));
  answered = put ∙ (ap (λ (w : List ℕ). w ++ take n text) (within.wrote t) ∙ append_assoc line.written within.put (take n text));
  line_end = λ no_fault. absurd (no_fault is);
  full = λ full. absurd (other (sym is ∙ full));
  images = λ image0 image1 left0 left1. inr (images image0 image1 left0 left1);
  begun = λ some. images;
}
  where
    prints : Prints text session (storage_of plain (records_from 16 within.types)) within.due
    prints = within.stands

    behind : IsBehind line within.due (held_in plain within.types)
    behind = is_behind line within.due within.put (held_in plain within.types) within.stage within.makes prints.records prints.stores

    images : EachPair leaves (λ image0 image1. IsPlainStored image0 image1 (held_behind line.held line.turn))
    images = subst (λ (h : PlainHeld). EachPair leaves (λ image0 image1. IsPlainStored image0 image1 h)) behind.held_is
        (clean_images reads leaves (held_in plain within.types) clean (within.keeps k).stored)

    split : text ++ prints.rest ≡ take n text ++ (drop n text ++ prints.rest)
    split = ap (λ (l : List ℕ). l ++ prints.rest) (sym (take-append-drop n text)) ∙ append_assoc (take n text) (drop n text) prints.rest

    other : WriteFault ≡ Full → ⊥
    other e = cc
