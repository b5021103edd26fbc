-- The store that all logs have in common is that of what the disks hold; and the logs one by one.
use Rattle.std.proofs.Common.{◌≡◌, ℕ, zero, suc, ◌+◌, ◌≤◌, ◌<◌, IsTrue, List, [], ◌∷◌, drop, length, map, Result, Ok, Err, Some, refl, sym, ap, ◌∙◌, subst, arith, inl, inr}
use Rattle.std.specs.Prelude.{All, IfErr, slice_get}
use Rattle.std.proofs.lemmas.List.{length-map}
use Rattle.std.proofs.lemmas.List.Elements.{All-contains}
use Rattle.std.proofs.lemmas.Option.{get_or_from_slice_get, slice_get_cases, slice_get_within}
use Rattle.store_io.specs.Whole.{IsImage}
use Rattle.gated_log.specs.Log.{payloads_of}
use Rattle.store_opening.specs.TakenBack.{IsTakenBack}
use Rattle.transactions_file.specs.Inventory.{State}
use Rattle.store_agreement.specs.Agreement.{Agrees, AllAgree, IsLeast, numbers_of}
use Rattle.store_agreement.specs.declared.agreement.Last.{Last}
use Rattle.channel.specs.Images.{Image, log_header, state_of}
use Rattle.recovery.specs.Images.{image_at, last_of, lasts_of}
use Rattle.recovery.specs.Stored.{Stored}
use Rattle.disk_opening.specs.declared.logs.ChannelLog.{ChannelLog}
use Rattle.disk_opening.proofs.DiskLists.{told_at}
use Rattle.store_opening.specs.Left.{AreSyncedBelow, Leaves, leaves_at}
use Rattle.store_opening.specs.LogsRead.{AreLogsRead, last_in}
use Rattle.log_rollback.specs.Finished.{AreTakenBackOrNot}
use Rattle.log_rollback.specs.Held.{Hold, MayLeave}

-- THE NEXT LOG

pub next_item : {X : Type 0} (all : List X) (place : ℕ) (x : X) (rest : List X) → drop place all ≡ x ∷ rest → (slice_get all place ≡ Some x) × (rest ≡ drop (place + 1) all)
next_item [] zero x rest is = absurd cc
next_item [] (suc place) x rest is = absurd cc
next_item (y ∷ all) zero x rest is = (cc, cc)
next_item {X = X} (y ∷ all) (suc place) x rest is =
    let t = next_item all place x rest is in
    let same : suc place + 1 ≡ suc (place + 1) = omega arith in
    (t.0, subst (λ (k : ℕ). rest ≡ drop k (y ∷ all)) (sym same) t.1)

pub agrees_at : (m : ℕ) (logs : List ChannelLog) (place : ℕ) (l : ChannelLog) → All (Agrees m) (map last_in logs) → slice_get logs place ≡ Some l → Agrees m (last_in l)
agrees_at m logs place l all is =
    let lt = slice_get_within logs place l is in
    subst (Agrees m) (told_at last_in logs place l (last_in l) lt ∙ ap last_in (get_or_from_slice_get logs place l l is)) (all place (last_in l) (omega (arith, lt, length-map logs last_in)))

pub if_err_any : {T E : Type 0} (r : Result T E) (P : Type 0) → P → IfErr r (λ e. P)
if_err_any (Ok x) P p = tt
if_err_any (Err e) P p = p

-- THE STORE THAT ALL HAVE

one_least : (m k : ℕ) (numbers : List ℕ) → IsLeast m numbers → IsLeast k numbers → m ≡ k
one_least m k numbers h l =
    let a : m ≤ k = All-contains (λ x. m ≤ x) numbers k h.at_most l.one in
    let b : k ≤ m = All-contains (λ x. k ≤ x) numbers m l.at_most h.one in
    omega arith

same_lasts : (images : List Image) (logs : List ChannelLog) → length logs ≡ length images → ((j : ℕ) (l : ChannelLog) → slice_get logs j ≡ Some l → l.inventory.state ≡ state_of (image_at images j)) → map last_in logs ≡ lasts_of images
same_lasts [] [] many all = refl
same_lasts [] (l ∷ logs) many all = absurd (omega arith)
same_lasts (i ∷ images) [] many all = absurd (omega arith)
same_lasts (i ∷ images) (l ∷ logs) many all =
    let first : last_in l ≡ last_of i = ap (λ (s : State). record { number = s.last; last_entry = s.entry }) (all 0 l refl) in
    ap (λ (q : Last). q ∷ map last_in logs) first ∙ ap (λ (qs : List Last). last_of i ∷ qs) (same_lasts images logs (omega (arith, many)) (λ j k is. all (suc j) k is))

module _ {A : Type 0} (reads : A → Image) (leaves : A → Leaves) (reads_left : (a : A) (file : ℕ) → IsTrue (leaves a file (reads a file))) where
  each_read : (xs : List A) (j : ℕ) → j < length (map leaves xs) → IsImage (leaves_at (map leaves xs) j) (image_at (map reads xs) j)
  each_read [] j lt = absurd (omega arith)
  each_read (x ∷ xs) zero lt = λ file. reads_left x file
  each_read (x ∷ xs) (suc j) lt = each_read xs j (omega arith)

  -- what is read is one of those that a stop may leave
  pub may_read : (xs : List A) → MayLeave (map leaves xs) (map reads xs)
  may_read xs = record { many = length-map xs reads ∙ sym (length-map xs leaves); each = each_read xs }

  pub number_held : (xs : List A) (m : ℕ) (logs : List ChannelLog) → length logs ≡ length xs → AreLogsRead (length xs) (map reads xs) logs → AllAgree m (map last_in logs)
      → (what : Stored) → Hold (map leaves xs) what → what.number ≡ m
  number_held xs m logs many read agreed what hold =
      let images = map reads xs in
      let held = hold images (may_read xs) in
      let same = same_lasts images logs (many ∙ sym (length-map xs reads)) (λ j l is. (read j l is).inventory) in
      one_least what.number m (numbers_of (lasts_of images)) held.agreed.least (subst (λ (ls : List Last). IsLeast m (numbers_of ls)) same agreed.least)

-- BEFORE THE FIRST

pub left_at_first : (n m : ℕ) (images : List Image) (leaves : List Leaves) (logs : List ChannelLog) → length logs ≡ n → AreLogsRead n images logs → AreSyncedBelow n 0 images leaves → AreTakenBackOrNot n m images leaves
left_at_first n m images leaves logs many read synced j within bytes left = elim (slice_get_cases logs j).1 [
  | inl t ↦ subst (λ (b : List ℕ). IsTakenBack (log_header n j) m (state_of (image_at images j)) (payloads_of (image_at images j 0)) b) (sym (synced j within bytes left))
      record { is_log = (read j t.0 t.2).has.file; same = inl refl }
  | inr past ↦ absurd (omega (arith, past.0))
]
