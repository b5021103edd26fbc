-- A file with which something is wrong is no log, and no dictionary.
use Rattle.std.proofs.Common.{◌≡◌, ℕ, suc, ◌+◌, ◌≤◌, ◌<◌, false, List, [], ◌∷◌, ◌++◌, length, take, Option, Some, None, Result, Ok, Err, IsErr, refl, sym, ap, ◌∙◌, arith, inl, inr}
use Rattle.std.specs.List.{AllByRecursion, fold}
use Rattle.std.proofs.lemmas.Bool.{cond-false}
use Rattle.std.proofs.lemmas.List.{take_at}
use Rattle.std.proofs.lemmas.List.Sums.{fold-append}
use Rattle.gated_log.specs.Log.{payloads_of, records}
use Rattle.tx_entry.specs.declared.entry.Entry.{Entry}
use Rattle.tx_entry.specs.declared.entry.BadEntry.{BadEntry}
use Rattle.tx_entry.specs.Entries.{entry_of}
use Rattle.transactions_file.specs.Inventory.{State, add, after, allowed, inventory_of, start, step}
use Rattle.type_desc.specs.Grammar.{record_text}
use Rattle.type_desc.specs.declared.desc.TypeDesc.{TypeDesc}
use Rattle.type_dictionary.specs.Records.{IsRecorded, records_from}
use Rattle.channel.specs.Images.{HasLog, Image, IsLogFile, log_header}
use Rattle.recovery.specs.Images.{types_header}
use Rattle.recovery.specs.Stored.{HasTypes}
use Rattle.disk_opening.specs.LogFaults.{HasRightFront, IsCutAt}
use Rattle.disk_opening.specs.TypesReading.{IsTypeFault}
use Rattle.store_opening.specs.WrongFiles.{HasOtherHeader, IsWrongDictionary, IsWrongLog}
use Rattle.store_opening.specs.declared.fault.Cause.{Cause}
use Rattle.store_opening.specs.declared.fault.Cause.TheVariants.{Header, Log, Entry as EntryCause, Order, Disagree, TypesHeader, TypesLog, TypesRecord, Chunk, Missing, NoType, Form, Changed}

-- FILES

other_header : (header file : List ℕ) → HasOtherHeader header file → IsLogFile header file → ⊥
other_header header file wrong (inl short) = absurd (omega (arith, wrong.long))
other_header header file wrong (inr is) = wrong.other (ap (take 8) is.split ∙ take_at header (records (payloads_of file) ++ is.gate ∷ is.rest) 8 is.eight)

cut : (header file : List ℕ) (at : ℕ) → IsCutAt header file at → IsLogFile header file → ⊥
cut header file at wrong (inl short) = absurd (omega (arith, wrong.long))
cut header file at wrong (inr is) = wrong.none (payloads_of file) is

-- ENTRIES

none_on : (payloads : List (List ℕ)) → fold step None payloads ≡ None
none_on [] = refl
none_on (p ∷ payloads) = none_on payloads

-- behind a record that gives no inventory there is none
no_inventory : (payloads : List (List ℕ)) (at : ℕ) (s : State) (payload : List ℕ) → HasRightFront payloads at s payload → step (Some s) payload ≡ None → inventory_of payloads ≡ None
no_inventory payloads at s payload front none =
    ap inventory_of front.split
    ∙ fold-append step (Some start) front.front (payload ∷ front.behind)
    ∙ ap (λ (o : Option State). fold step o (payload ∷ front.behind)) front.inventory
    ∙ ap (λ (o : Option State). fold step o front.behind) none
    ∙ none_on front.behind

no_entry : (s : State) (r : Result Entry BadEntry) → IsErr r → add s r ≡ None
no_entry s (Ok e) is = absurd cc
no_entry s (Err bad) is = refl

no_order : (s : State) (r : Result Entry BadEntry) (e : Entry) → r ≡ Ok e → allowed s e ≡ false → add s r ≡ None
no_order s r e is wrong = ap (add s) is ∙ cond-false (allowed s e) (Some (after s e)) None wrong

unlike : {o : Option State} {s : State} → o ≡ None → o ≡ Some s → ⊥
unlike n s = cc

pub wrong_log : (n j : ℕ) (image : Image) (cause : Cause) → IsWrongLog n j (image 0) cause → HasLog n j image → ⊥
wrong_log n j image Header wrong has = other_header (log_header n j) (image 0) wrong has.file
wrong_log n j image (Log at) wrong has = cut (log_header n j) (image 0) at wrong has.file
wrong_log n j image (EntryCause number) wrong has =
    unlike (no_inventory (payloads_of (image 0)) number wrong.state wrong.payload wrong.front (no_entry wrong.state (entry_of wrong.payload) wrong.wrong)) has.allowed
wrong_log n j image (Order number) wrong has =
    unlike (no_inventory (payloads_of (image 0)) number wrong.state wrong.payload wrong.front (no_order wrong.state (entry_of wrong.payload) wrong.entry wrong.spelled wrong.wrong)) has.allowed
wrong_log n j image (Disagree number) wrong has = wrong
wrong_log n j image TypesHeader wrong has = wrong
wrong_log n j image (TypesLog at) wrong has = wrong
wrong_log n j image (TypesRecord number) wrong has = wrong
wrong_log n j image (Chunk file at) wrong has = wrong
wrong_log n j image (Missing id) wrong has = wrong
wrong_log n j image (NoType id) wrong has = wrong
wrong_log n j image (Form id) wrong has = wrong
wrong_log n j image (Changed id) wrong has = wrong

-- TYPES

-- the record behind those of types is one of a type
record HasNext (id : ℕ) (front types : List TypeDesc) (payload : List ℕ) : Type 0 where
  desc : TypeDesc
  recorded : IsRecorded desc
  spelled : payload ≡ record_text (id + length front, desc)
  room : length front < length types

first_of : {a b : List ℕ} {xs ys : List (List ℕ)} → a ∷ xs ≡ b ∷ ys → b ≡ a
first_of e = cc

rest_of : {a b : List ℕ} {xs ys : List (List ℕ)} → a ∷ xs ≡ b ∷ ys → xs ≡ ys
rest_of e = cc

next_record : (id : ℕ) (front types : List TypeDesc) (payload : List ℕ) (behind : List (List ℕ)) → AllByRecursion IsRecorded types
    → records_from id types ≡ records_from id front ++ payload ∷ behind → HasNext id front types payload
next_record id [] [] payload behind all is = absurd cc
next_record id [] (d ∷ types) payload behind all is =
    let same : id ≡ id + 0 = omega arith in
    record {
      desc = d;
      recorded = all.0;
      spelled = first_of is ∙ ap (λ (k : ℕ). record_text (k, d)) same;
      room = omega arith;
    }
next_record id (t ∷ front) [] payload behind all is = absurd cc
next_record id (t ∷ front) (d ∷ types) payload behind all is =
    let h = next_record (id + 1) front types payload behind all.1 (rest_of is) in
    let same : (id + 1) + length front ≡ id + suc (length front) = omega arith in
    record {
      desc = h.desc;
      recorded = h.recorded;
      spelled = h.spelled ∙ ap (λ (k : ℕ). record_text (k, h.desc)) same;
      room = omega (arith, h.room);
    }

wrong_record : (payloads : List (List ℕ)) (at : ℕ) (types : List TypeDesc) → IsTypeFault payloads at → length types ≤ 65536 → AllByRecursion IsRecorded types → payloads ≡ records_from 16 types → ⊥
wrong_record payloads at types wrong few all is =
    let h = next_record 16 wrong.types types wrong.payload wrong.behind all (sym is ∙ wrong.front.split) in
    wrong.wrong h.desc record { room = omega (arith, h.room, few); recorded = h.recorded; spelled = h.spelled }

pub wrong_dictionary : (n : ℕ) (image : Image) (cause : Cause) (types : List TypeDesc) → IsWrongDictionary n (image 1) cause → HasTypes n image types → ⊥
wrong_dictionary n image Header types wrong has = wrong
wrong_dictionary n image (Log at) types wrong has = wrong
wrong_dictionary n image (EntryCause number) types wrong has = wrong
wrong_dictionary n image (Order number) types wrong has = wrong
wrong_dictionary n image (Disagree number) types wrong has = wrong
wrong_dictionary n image TypesHeader types wrong has = other_header (types_header n) (image 1) wrong has.file
wrong_dictionary n image (TypesLog at) types wrong has = cut (types_header n) (image 1) at wrong has.file
wrong_dictionary n image (TypesRecord number) types wrong has = wrong_record (payloads_of (image 1)) number types wrong has.few has.recorded has.spelled
wrong_dictionary n image (Chunk file at) types wrong has = wrong
wrong_dictionary n image (Missing id) types wrong has = wrong
wrong_dictionary n image (NoType id) types wrong has = wrong
wrong_dictionary n image (Form id) types wrong has = wrong
wrong_dictionary n image (Changed id) types wrong has = wrong
