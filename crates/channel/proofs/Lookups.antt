-- An entity that is looked up in the table that rows give.
use Rattle.std.proofs.Common.{◌≡◌, ◌≢◌, ◌≤◌, ◌↔◌, ℕ, true, false, inl, inr, List, length, take, Option, Some, None, is_some, option_map, Result, Ok, Err, refl, sym, ap, subst, ◌∙◌, arith}
use Rattle.std.specs.Prelude.{IsErrOf, IsSomeAnd}
use Rattle.std.specs.Ordering.{nat_cmp}
use Rattle.std.specs.FinMap.{FinMap, get}
use Rattle.std.proofs.lemmas.Bool.{cases_lt, false≢true}
use Rattle.std.proofs.lemmas.List.{get_or-take, get_or_past, length-take}
use Rattle.field_bytes.proofs.Laws.{IsBytes}
use Rattle.graph_model.specs.Graph.{entity_of, lists}
use Rattle.graph_model.specs.declared.entity.Entity.{Entity}
use Rattle.entity_form.specs.declared.places.Header.{Header}
use Rattle.entity_form.specs.Spelling.{IsHeaderOf}
use Rattle.channel_files.specs.Whole.{HasWholeChunks, header_of}
use Rattle.data_file.specs.Headers.{BeginsWith}
use Rattle.entity_index.specs.declared.row.Row.{Row}
use Rattle.channel.specs.declared.fault.ChannelFault.{ChannelFault}
use Rattle.channel.specs.declared.fault.ChannelFault.TheVariants as fault
use Rattle.channel.specs.Entities.{AreBytesOf, IsSpelling, entity_in}
use Rattle.channel.specs.Core.{bytes_at, table_in}
use Rattle.channel.specs.OnDisk.{Stands}
use Rattle.channel.proofs.Spelled.{header_in_front, spells_itself}
use Rattle.channel.proofs.Tables.{entity_of_table, entity_under}
use Rattle.channel.proofs.OnDisks.{row_length}

-- ---- whether the table has an id

mapped : (reads : ℕ → List ℕ) (o : Option Row) → is_some (option_map (entity_under reads) o) ≡ is_some o
mapped reads None = refl
mapped reads (Some row) = refl

pub lists_row : (reads : ℕ → List ℕ) (rows : FinMap nat_cmp Row) (id : ℕ) → lists (table_in reads rows) id ≡ is_some (get rows id)
lists_row reads rows id = ap (λ (o : Option Entity). is_some o) (entity_of_table reads rows id) ∙ mapped reads (get rows id)

-- the answer says that the id is gone, where the table lacks it
abbrev pub TellsGone : (ℕ → List ℕ) → FinMap nat_cmp Row → ℕ → Result ℕ ChannelFault → Type 0
TellsGone reads rows id result = IsErrOf result (fault.Gone id) ↔ (lists (table_in reads rows) id ≡ false)

pub told_gone : (reads : ℕ → List ℕ) (rows : FinMap nat_cmp Row) (id : ℕ) (result : Result ℕ ChannelFault) → get rows id ≡ None → result ≡ Err (fault.Gone id) → TellsGone reads rows id result
told_gone reads rows id result none gone = (λ _. lists_row reads rows id ∙ ap (λ (o : Option Row). is_some o) none, λ _. gone)

pub told_other : (reads : ℕ → List ℕ) (rows : FinMap nat_cmp Row) (id : ℕ) (row : Row) (result : Result ℕ ChannelFault) → get rows id ≡ Some row → result ≢ Err (fault.Gone id)
    → TellsGone reads rows id result
told_other reads rows id row result some other =
    let listed : lists (table_in reads rows) id ≡ true = lists_row reads rows id ∙ ap (λ (o : Option Row). is_some o) some in
    (λ gone. absurd (other gone), λ lacks. absurd (false≢true (sym lacks ∙ listed)))

pub ok_is_not : (n id : ℕ) → ◌≢◌ {A = Result ℕ ChannelFault} (Ok n) (Err (fault.Gone id))
ok_is_not n id e = cc

pub fault_is_not : (f : ChannelFault) (id : ℕ) → f ≡ fault.Fault → ◌≢◌ {A = Result ℕ ChannelFault} (Err f) (Err (fault.Gone id))
fault_is_not f id is e = cc

pub changed_is_not : (f : ChannelFault) (id : ℕ) → f ≡ fault.Changed id → ◌≢◌ {A = Result ℕ ChannelFault} (Err f) (Err (fault.Gone id))
changed_is_not f id is e = cc

-- ---- the entity that is read

front_fits : (n : ℕ) (bytes : List ℕ) → IsBytes bytes → IsBytes (take n bytes)
front_fits n bytes fits i = elim (cases_lt i n) [
  | inl lt ↦ rw (get_or-take n bytes i 0 lt) (fits i)
  | inr le ↦ rw (get_or_past (take n bytes) i 0 (omega (arith, length-take n bytes))) (omega arith)
]

-- bytes of a header's length that begin with it are the spelling of an entity of its id, whatever stands behind it
pub spelled_as_read : (out : List ℕ) (h : Header) (id : ℕ) → IsBytes out → h.length ≤ length out → 32 ≤ h.length → IsHeaderOf h h.length → h.id ≡ id → BeginsWith (take 32 out) h
    → IsSpelling id (take h.length out)
spelled_as_read out h id fits within long right id_is begins =
    let bytes = take h.length out in
    let long_is : length bytes ≡ h.length = omega (arith, length-take h.length out, within) in
    let there : header_of bytes ≡ h = header_in_front out h.length h long within begins in
    let right_there : IsHeaderOf (header_of bytes) (length bytes) = subst (λ (x : Header). IsHeaderOf x (length bytes)) (sym there) (subst (IsHeaderOf h) (sym long_is) right) in (
      entity_in bytes,
      subst (λ (x : ℕ). AreBytesOf x (entity_in bytes) bytes) (ap (λ (x : Header). x.id) there ∙ id_is)
          (spells_itself bytes (front_fits h.length out fits) (omega (arith, long_is, long)) right_there),
    )

module _ (reads : ℕ → List ℕ) (rows : FinMap nat_cmp Row) (number id : ℕ) (row : Row) (is : get rows id ≡ Some row) (whole : HasWholeChunks reads) (stands : Stands reads number id row)
    (id_is : row.header.id ≡ id) (header : IsHeaderOf row.header row.header.length) where
  abbrev bytes : List ℕ
  bytes = bytes_at reads row

  length_is : length bytes ≡ row.header.length
  length_is = row_length reads number id row whole stands

  spelled_there : IsBytes bytes → AreBytesOf id (entity_in bytes) bytes
  spelled_there fits =
      let right : IsHeaderOf (header_of bytes) (length bytes) =
      subst (λ (h : Header). IsHeaderOf h (length bytes)) (sym stands.header) (subst (IsHeaderOf row.header) (sym length_is) header) in
      subst (λ (x : ℕ). AreBytesOf x (entity_in bytes) bytes) (ap (λ (h : Header). h.id) stands.header ∙ id_is)
      (spells_itself bytes fits (omega (arith, length_is, header.4)) right)

  -- the bytes that were read are the spelling of the table's entity
  pub entity_read : (out : List ℕ) → IsBytes out → take row.header.length out ≡ bytes_at reads row
      → IsSomeAnd (entity_of (table_in reads rows) id) (λ e. AreBytesOf id e (take row.header.length out))
  entity_read out fits read =
      subst (λ (o : Option Entity). IsSomeAnd o (λ e. AreBytesOf id e (take row.header.length out)))
      (sym (entity_of_table reads rows id ∙ ap (λ (o : Option Row). option_map (entity_under reads) o) is))
      (subst (AreBytesOf id (entity_in bytes)) (sym read) (spelled_there (subst IsBytes read (front_fits row.header.length out fits))))
