-- What the fields of a dictionary keep when a record is added, and what stands against a text.
use Rattle.std.proofs.Common.{◌≡◌, ℕ, ◌+◌, ◌<◌, ◌≤◌, cond, String, List, [], ◌∷◌, ◌++◌, length, Some, refl, sym, ap, subst, ◌∙◌, length-append, arith}
use Rattle.std.specs.BTreeMap.{BTreeMap, get_by_text}
use Rattle.std.specs.Map.{update}
use Rattle.std.specs.Str.{bytes_eq}
use Rattle.std.specs.declared.alloc.Global.{Global}
use Rattle.std.proofs.lemmas.List.Elements.{All-push}
use Rattle.type_desc.specs.Grammar.{IsRecord, record_text}
use Rattle.type_desc.specs.Prefixes.{Spells}
use Rattle.type_desc.specs.Reading.{record_at}
use Rattle.type_desc.specs.declared.desc.TypeDesc.{TypeDesc}
use Rattle.type_desc.proofs.Again.{record_again}
use Rattle.type_desc.proofs.Readers.{ok_is}
use Rattle.type_dictionary.specs.Kept.{IsKept}
use Rattle.type_dictionary.specs.Records.{IsRecorded, IsNextRecord, MayFollow}
use Rattle.type_dictionary.proofs.LatestOnes.{latest_from-push}

-- the map after the id of one more record is put into it
pub IsKept-push : (root : TypeDesc) (types : List TypeDesc) (old new : BTreeMap (String Global) ℕ) (desc : TypeDesc) → IsKept root types old
    → length types < 65536 → IsRecorded desc
    → ((name : List ℕ) → get_by_text new name ≡ update bytes_eq (get_by_text old) desc.name (Some (16 + length types)) name)
    → IsKept root (types ++ desc ∷ []) new
IsKept-push root types old new desc kept room recorded put = record {
  built_in = kept.built_in;
  limit = simp length-append (omega arith);
  recorded = All-push IsRecorded types desc kept.recorded recorded;
  latest = λ name. put name ∙ ap (cond (bytes_eq desc.name name) (Some (16 + length types))) (kept.latest name) ∙ sym (latest_from-push 16 types desc name);
}

-- a record that may follow is the next one
pub next_record : (types : List TypeDesc) (text : List ℕ) (id : ℕ) (desc : TypeDesc) → IsRecord (id, desc) → text ≡ record_text (id, desc)
    → MayFollow types id desc → IsNextRecord types text desc
next_record types text id desc is spelled may =
    let at : id ≡ 16 + length types = may.0 in
    let last : id ≤ 65551 = is.id.1 in
    record {
      room = omega arith;
      recorded = record { sound = record { grammar = is.desc; own_names = may.2 }; named = may.1 };
      spelled = spelled ∙ ap (λ (n : ℕ). record_text (n, desc)) at;
    }

-- a record spells one id and one description
record_spelled_once : (r s : ℕ × TypeDesc) → IsRecord r → IsRecord s → record_text r ≡ record_text s → r ≡ s
record_spelled_once r s r_is s_is e = ap (λ p. p.0) (ok_is _ _ (sym (record_again r r_is) ∙ ap record_at e ∙ record_again s s_is))

-- a text that spells a record which may not follow is not the next record
pub not_next : (types : List TypeDesc) (text : List ℕ) (id : ℕ) (desc : TypeDesc) → IsRecord (id, desc) → text ≡ record_text (id, desc)
    → (MayFollow types id desc → ⊥) → (other : TypeDesc) → IsNextRecord types text other → ⊥
not_next types text id desc is spelled may_not other next =
    let len = next.room in
    let other_is : IsRecord (16 + length types, other) = record { id = (omega arith, omega arith); desc = next.recorded.sound.grammar } in
    let same = record_spelled_once (id, desc) (16 + length types, other) is other_is (sym spelled ∙ next.spelled) in
    let may : MayFollow types (16 + length types) other = (refl, next.recorded.named, next.recorded.sound.own_names) in
    may_not (subst (λ (r : ℕ × TypeDesc). MayFollow types r.0 r.1) (sym same) may)

-- a text that spells no record is not the next one
pub spells_no_record : (types : List TypeDesc) (text : List ℕ) → ¬ (Spells record_text IsRecord text) → (desc : TypeDesc) → IsNextRecord types text desc → ⊥
spells_no_record types text none desc next =
    let len = next.room in
    let is : IsRecord (16 + length types, desc) = record { id = (omega arith, omega arith); desc = next.recorded.sound.grammar } in
    none ((16 + length types, desc), is, next.spelled)

-- a text is the next record of one description
pub next_once : (types : List TypeDesc) (text : List ℕ) (one other : TypeDesc) → IsNextRecord types text one → IsNextRecord types text other → one ≡ other
next_once types text one other next also =
    let len = next.room in
    let id = 16 + length types in
    let one_is : IsRecord (id, one) = record { id = (omega arith, omega arith); desc = next.recorded.sound.grammar } in
    let other_is : IsRecord (id, other) = record { id = (omega arith, omega arith); desc = also.recorded.sound.grammar } in
    ap (λ (r : ℕ × TypeDesc). r.1) (record_spelled_once (id, one) (id, other) one_is other_is (sym next.spelled ∙ also.spelled))
