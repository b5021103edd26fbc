-- What may be left of a log whose last store is taken back.
use Rattle.std.proofs.Common.{◌≡◌, ◌≢◌, ℕ, ◌+◌, ◌==◌, ◌&&◌, Bool, true, List, [], ◌∷◌, ◌++◌, Option, Some, None, Ok, refl, sym, ap, ◌∙◌, subst, arith, inl, inr}
use Rattle.std.proofs.lemmas.Bool.{eq-eqb}
use Rattle.store_io.specs.Disk.{Only}
use Rattle.gated_log.specs.Log.{Each, IsBeforeOrAfter, IsLogOf, payloads_of}
use Rattle.gated_log.proofs.Payloads.{log_payloads}
use Rattle.tx_entry.specs.declared.entry.Entry.{Entry}
use Rattle.tx_entry.specs.declared.entry.Entry.TheVariants.{Creation, Store, Transfer, Truncation, Deletion}
use Rattle.tx_entry.specs.Entries.{entry_of, spelling}
use Rattle.transactions_file.specs.Inventory.{State, after, inventory_of, is_store_at}
use Rattle.channel_files.specs.Chunks.{ranges_of}
use Rattle.channel_files.proofs.Within.{all_fit, drops}
use Rattle.channel.specs.Images.{IsLogFile}
use Rattle.store_agreement.specs.Agreement.{Agrees, IsStoreOf}
use Rattle.store_agreement.specs.declared.agreement.Last.{Last}
use Rattle.transactions_file.specs.Transactions.{IsKept, Transactions}
use Rattle.store_opening.specs.TakenBack.{IsTakenBack}
use Rattle.log_rollback.specs.Finished.{IsFinished, IsOpenAt, IsTruncationOf}

-- the store that is the last entry stands where it says
pub store_stands : (number file at len next : ℕ) (n : ℕ) → IsStoreOf number (Some (Store n file at len next)) → is_store_at (Some (Store n file at len next)) file at number ≡ true
store_stands number file at len next n is =
    ap (λ (b : Bool). b && (file == file && at == at)) (eq-eqb n number is) ∙ ap (λ (b : Bool). b && (at == at)) (eq-eqb file file refl) ∙ eq-eqb at at refl

-- the store in front of it is the one before
pub one_before : (payloads : List (List ℕ)) (s : State) (number m : ℕ) → inventory_of payloads ≡ Some s → IsStoreOf number s.entry → s.last ≡ m + 1 → s.last_before ≡ m
one_before payloads s number m is store ahead = by s.entry refl store
  where
    by : (o : Option Entry) → s.entry ≡ o → IsStoreOf number o → s.last_before ≡ m
    by (Some (Store n file at len next)) e st =
        let here : is_store_at s.entry file at number ≡ true = ap (λ (o : Option Entry). is_store_at o file at number) e ∙ store_stands number file at len next n st in
        let t = (drops s (ranges_of payloads) s.entry file at number here (all_fit payloads s is).undone).next in
        omega arith
    by (Some (Creation file)) e st = absurd st
    by (Some (Transfer source file at len)) e st = absurd st
    by (Some (Truncation file k d)) e st = absurd st
    by (Some (Deletion file)) e st = absurd st
    by None e st = absurd st

-- a log of payloads
pub is_file : (header file : List ℕ) (payloads : List (List ℕ)) → IsLogOf header payloads file → IsLogFile header file
is_file header file payloads is = inr (subst (λ (ps : List (List ℕ)). IsLogOf header ps file) (sym (log_payloads header payloads file is)) is)

pub not_yet : (header file : List ℕ) (m : ℕ) (s : State) (payloads : List (List ℕ)) → IsLogOf header payloads file → IsTakenBack header m s payloads file
not_yet header file m s payloads is = record { is_log = is_file header file payloads is; same = inl (log_payloads header payloads file is) }

pub taken_or_not : (header bytes : List ℕ) (m : ℕ) (s : State) (payloads : List (List ℕ)) (file at dropped : ℕ) → is_store_at s.entry file at dropped ≡ true
    → entry_of (spelling (Truncation file at dropped)) ≡ Ok (Truncation file at dropped) → s.last ≡ m + 1 → IsBeforeOrAfter header payloads (spelling (Truncation file at dropped)) bytes
    → IsTakenBack header m s payloads bytes
taken_or_not header bytes m s payloads file at dropped last again ahead (inl is) = not_yet header bytes m s payloads is
taken_or_not header bytes m s payloads file at dropped last again ahead (inr is) = record {
  is_log = is_file header bytes (payloads ++ spelling (Truncation file at dropped) ∷ []) is;
  same = inr (
    ahead,
    record { file = file; at = at; dropped = dropped; last = last; again = again; split = log_payloads header (payloads ++ spelling (Truncation file at dropped) ∷ []) bytes is },
  );
}

-- of a channel that is not at the store that all have, the store behind that is the last entry
pub is_ahead : (m : ℕ) (l : Last) → Agrees m l → l.number ≢ m → (l.number ≡ m + 1) × IsStoreOf l.number l.last_entry
is_ahead m l (inl e) ne = absurd (ne e)
is_ahead m l (inr t) ne = t

-- A TRUNCATION IS APPENDED

-- the log that is read is the one that a stop leaves
pub only_log : (header bytes : List ℕ) (leaves : List ℕ → Bool) (payloads : List (List ℕ)) → IsLogOf header payloads bytes → Only bytes leaves → Each leaves (IsLogOf header payloads)
only_log header bytes leaves payloads is only image left = subst (IsLogOf header payloads) (sym (only image left)) is

module _ (t : Transactions) (m : ℕ) (e : Entry) (old : List ℕ) (kept : IsKept t old) (is : IsTruncationOf t.inventory.state e) (ahead : t.inventory.state.last ≡ m + 1) (again : entry_of (spelling e) ≡ Ok e) where
  read_again : entry_of (spelling (Truncation is.file is.at t.inventory.state.last)) ≡ Ok (Truncation is.file is.at t.inventory.state.last)
  read_again = subst (λ (q : Entry). entry_of (spelling q) ≡ Ok q) is.entry again

  pub left_after : (leaves new : List ℕ → Bool) → Only old leaves
      → (Each leaves (IsLogOf t.log.header (payloads_of old)) → Each new (IsBeforeOrAfter t.log.header (payloads_of old) (spelling e)))
      → Each new (IsTakenBack t.log.header m t.inventory.state (payloads_of old))
  left_after leaves new only stop image left =
      taken_or_not t.log.header image m t.inventory.state (payloads_of old) is.file is.at t.inventory.state.last is.last read_again ahead
      (subst (λ (q : Entry). IsBeforeOrAfter t.log.header (payloads_of old) (spelling q) image) is.entry
      (stop (only_log t.log.header old leaves (payloads_of old) kept.log.is only) image left))

  pub finished_after : (new : List ℕ) (now : Transactions) → IsKept now new → now.log.header ≡ t.log.header → payloads_of new ≡ payloads_of old ++ spelling e ∷ []
      → IsFinished t.log.header m t.inventory.state (payloads_of old) new
  finished_after new now kept_now header added = record {
    is_log = subst (λ (h : List ℕ). IsLogOf h (payloads_of new) new) header kept_now.log.is;
    same = inr (
      ahead,
      record {
        file = is.file;
        at = is.at;
        dropped = t.inventory.state.last;
        last = is.last;
        again = read_again;
        split = added ∙ ap (λ (q : Entry). payloads_of old ++ spelling q ∷ []) is.entry;
      },
    );
  }

  pub open_after : (new : List ℕ) (now : Transactions) → IsKept now new → IsStoreOf t.inventory.state.last t.inventory.state.entry → now.inventory.state ≡ after t.inventory.state e → IsOpenAt m new now
  open_after new now kept_now store state = record {
    kept = kept_now;
    last = ap (λ (s : State). s.last) state ∙ ap (λ (q : Entry). (after t.inventory.state q).last) is.entry
        ∙ one_before (payloads_of old) t.inventory.state t.inventory.state.last m kept.inventory store ahead;
  }

pub one_ahead : (m k : ℕ) (s : State) → Agrees m (record { number = s.last; last_entry = s.entry }) → k ≡ s.last → k ≢ m → s.last ≡ m + 1
one_ahead m k s agrees is ne = (is_ahead m (record { number = s.last; last_entry = s.entry }) agrees (λ e. ne (is ∙ e))).0
