-- A channel whose table gained a row.
use Rattle.std.proofs.Common.{◌≡◌, ◌≤◌, ℕ, ◌+◌, Bool, false, inl, inr, List, length, Option, Some, None, is_some, cond, Result, Ok, Err, IsTrue, IfSome, OnOk, sym, ap, subst, ◌∙◌, arith}
use Rattle.std.specs.Result.{is_err}
use Rattle.std.specs.Ordering.{nat_cmp}
use Rattle.std.specs.FinMap.{FinMap, get, insert}
use Rattle.std.proofs.lemmas.Bool.{cases_eq}
use Rattle.oid_table.specs.MapLaws.{get-insert_same, get-insert_other}
use Rattle.graph_model.specs.declared.entity.Record.{Record}
use Rattle.entity_index.specs.declared.row.Row.{Row}
use Rattle.channel.specs.State.{ChannelState}
use Rattle.channel.specs.Core.{last_part}
use Rattle.channel.specs.OnDisk.{IsOnDisk, Stands}
use Rattle.channel.specs.Sound.{IsSound, IsRightRow, HasRoom}

same_row : (a b : Row) → ◌≡◌ {A = Option Row} (Some a) (Some b) → a ≡ b
same_row a b e = cc

-- what holds of each row and of the one that is put in
pub with_row : (P : ℕ → Row → Type 0) (rows : FinMap nat_cmp Row) (id : ℕ) (row : Row) → P id row → ((x : ℕ) (r : Row) → get rows x ≡ Some r → P x r)
    → (x : ℕ) (r : Row) → get (insert rows id row) x ≡ Some r → P x r
with_row P rows id row here each x r is = elim (cases_eq x id) [
  | inl same ↦
      let found : row ≡ r = same_row row r (sym (get-insert_same rows id row) ∙ ap (λ (k : ℕ). get (insert rows id row) k) (sym same) ∙ is) in
      subst (λ (k : ℕ). P k r) (sym same) (subst (P id) found here)
  | inr differs ↦ each x r (sym (get-insert_other rows id row x differs) ∙ is)
]

module _ {D : Type 0} (c : ChannelState D) (id : ℕ) (row : Row) (rows : FinMap nat_cmp Row) (rows_are : rows ≡ insert c.rows id row) where
  abbrev pub gained : FinMap nat_cmp Row → ChannelState D
  gained rows = record c { rows = rows }

  module _ (tells : Bool) (reads : D → ℕ → List ℕ) (was : IsSound tells reads c) (confirmed : c.files.confirmed ≡ last_part c) (right : IsRightRow c id row)
      (stands : IsTrue tells → Stands (reads c.files.disk) (last_part c) id row) where
    on_disk_inserted : IsTrue tells → IsOnDisk reads c → IsOnDisk reads (gained (insert c.rows id row))
    on_disk_inserted told there = record {
      of_disk = there.of_disk;
      whole = there.whole;
      rows = with_row (Stands (reads c.files.disk) (last_part c)) c.rows id row (stands told) there.rows;
      before = λ unconfirmed. absurd (unconfirmed confirmed);
      types = there.types;
      right = there.right;
      waits = λ unconfirmed. absurd (unconfirmed confirmed);
    }

    sound_inserted : IsSound tells reads (gained (insert c.rows id row))
    sound_inserted = record {
      number = was.number;
      channels = was.channels;
      sizes = was.sizes;
      rows = with_row (IsRightRow (gained (insert c.rows id row))) c.rows id row
          (record { live = right.live; id_is = right.id_is; header = right.header; fits = right.fits })
          (λ x r is. let each = was.rows x r is in record { live = each.live; id_is = each.id_is; header = each.header; fits = each.fits });
      types = was.types;
      types_file = was.types_file;
      on_disk = λ told sound. on_disk_inserted told (was.on_disk told sound);
    }

    pub sound_found : IsSound tells reads (gained rows)
    sound_found = subst (λ (rows : FinMap nat_cmp Row). IsSound tells reads (gained rows)) (sym rows_are) sound_inserted

  pub room_found : (before spare : ℕ) → HasRoom c before → IfSome c.prepared (λ part. length part ≤ spare) → HasRoom (gained rows) spare
  room_found before spare room enough = record { rows = enough; files = room.files }

-- there is room for what is ready behind a new row
pub room_behind : (prepared : Option (List Record)) (ready before spare : ℕ) (seen : Option Row) → IfSome prepared (λ part. ready ≡ length part) → ready + 1 ≤ before → seen ≡ None
    → spare + cond (is_some seen) 0 1 ≡ before → IfSome prepared (λ part. length part ≤ spare)
room_behind None ready before spare seen is enough none less = tt
room_behind (Some part) ready before spare seen is enough none less =
    let one_less : spare + 1 ≡ before = subst (λ (o : Option Row). spare + cond (is_some o) 0 1 ≡ before) none less in
    omega (arith, is, enough, one_less)

pub at_ok : {A E : Type 0} (r : Result A E) (P : Type 0) → is_err r ≡ false → OnOk r P → P
at_ok (Ok a) P not_err holds = holds
at_ok (Err e) P not_err holds = absurd cc
