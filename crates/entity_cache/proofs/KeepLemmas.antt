-- How a block for a content is found, and what stands once it was kept.
use Rattle.std.proofs.Common.{◌≡◌, ℕ, ◌+◌, ◌<◌, ◌≤◌, ◌⊎◌, List, [], ◌∷◌, length, Some, None, refl, sym, ap, subst, ◌∙◌, arith, inl, inr, length-append, length-drop}
use Rattle.std.specs.Option.{option_map_or}
use Rattle.std.proofs.lemmas.List.{length-take, get_or-set_same}
use Rattle.entity_region.specs.Space.{Space, size, most, live, free, rounded, block_at, written, with_block, with_bytes, Placed, AreWritten, HasNoHole, IsPacked, IsTaken}
use Rattle.entity_cache.specs.declared.kept.Kept.TheVariants.{Yes, NoMemory}
use Rattle.entity_cache.specs.Contents.{most_entries}
use Rattle.entity_cache.specs.Cached.{block_of, without, IsHeld, ForeignStay, HaveLeft, IsAside, IsRoom}
use Rattle.entity_cache.specs.Keeping.{HasRoom, HasKept}
use Rattle.entity_cache.proofs.Lookups.{without_front, without_fewer, removed_none as without_none}
use Rattle.entity_cache.proofs.HeldLemmas.{left_none, left_packed, left_again, left_again_given, content_again_given, apart_taken, held_kept, content_kept, content_others, foreign_kept, foreign_again, hole_for}

length_written : (xs w : List ℕ) (at : ℕ) → at + length w ≤ length xs → length (written xs at w) ≡ length xs
length_written xs w at inside = simp (length-take, length-append, length-drop) (omega arith)

pub room_first : (region taken : Space) (cache : List (ℕ × ℕ)) (n number : ℕ) → IsHeld region cache → IsTaken region taken n number → HasRoom region cache taken cache n number
room_first region taken cache n number held is = record { before = region; left = left_none region cache held; taken = is }

module _ (region given packed : Space) (cache after : List (ℕ × ℕ)) (n : ℕ) (left : HaveLeft region cache given after) (packs : IsPacked given packed) where
  pub left_then_packed : HaveLeft region cache packed after
  left_then_packed = left_again region given packed cache after after left (left_packed given packed after left.held packs)

  pub room_packed : (taken : Space) (number : ℕ) → IsTaken packed taken n number → HasRoom region cache taken after n number
  room_packed taken number is = record { before = packed; left = left_then_packed; taken = is }

  pub empty_packed : (wanted : ℕ) → wanted ≡ rounded n → (wanted ≤ free given) ⊎ (after ≡ []) → HasNoHole packed (rounded n) → after ≡ []
  empty_packed wanted is (inr empty) none = empty
  empty_packed wanted is (inl enough) none = let stays = packs.free_stays in absurd (hole_for packed (rounded n) packs.one_hole (omega arith) none)

  pub room_stays : live region < most region → live packed < most packed
  room_stays room =
      let count = left_then_packed.foreign.count_stays in
      let same = left_then_packed.foreign.most_stays in
      let fewer = left_then_packed.fewer in
      omega arith

module _ (before taken written : Space) (cache after : List (ℕ × ℕ)) (id number : ℕ) (bytes : List ℕ) (held : IsHeld before cache) (is : IsTaken before taken (length bytes) number)
    (put : AreWritten taken written number bytes) (blocks : written.blocks ≡ taken.blocks) (sized : size written ≡ size taken) (new : block_of cache id ≡ None) where
  front : without id ((id, number) ∷ cache) ≡ cache
  front = without_front cache id number

  pub put_yes : after ≡ (id, number) ∷ cache → HasKept before cache written after id bytes Yes
  put_yes after_is = subst (λ c. HasKept before cache written c id bytes Yes) (sym after_is) (record {
    held = held_kept before taken written cache id (length bytes) number bytes held is put blocks sized new;
    kept = λ yes. content_kept before taken written cache id (length bytes) number bytes held is put blocks sized new;
    unkept = λ other. absurd (other refl);
    newest = λ yes. record { number = number; is = ap (λ c. (id, number) ∷ c) (sym front) };
    rest = front;
    others = λ other differs. content_others before taken written cache id (length bytes) number bytes held is put blocks sized new other differs;
    foreign = foreign_kept before taken written cache id (length bytes) number bytes held is put blocks sized new;
    hole = λ same. absurd cc;
  })

  pub put_no : after ≡ cache → HasKept before cache (with_block written number None) after id bytes NoMemory
  put_no after_is =
      let left = left_again_given before taken written cache id (length bytes) number bytes held is put blocks sized new in
      subst (λ c. HasKept before cache (with_block written number None) c id bytes NoMemory) (sym after_is) (record {
        held = left.held;
        kept = λ yes. absurd cc;
        unkept = λ other. new;
        newest = λ yes. absurd cc;
        rest = without_none cache id new;
        others = λ other differs. content_again_given before taken written cache id (length bytes) number bytes held is put blocks sized new other;
        foreign = left.foreign;
        hole = λ same. absurd cc;
      })

-- bytes that are written into a block leave the size of the region
pub sized_written : (before taken : Space) (n number : ℕ) (bytes : List ℕ) → IsTaken before taken n number → length bytes ≡ n → size (with_bytes taken number bytes) ≡ size taken
sized_written before taken n number bytes is len =
    let p : Placed = record { at = is.at; len = n } in
    let there : block_at taken number ≡ Some p = ap (λ s. block_at s number) is.becomes ∙ get_or-set_same before.blocks number (Some p) None is.below in
    let begins : option_map_or (λ q. q.at) (block_at taken number) 0 ≡ is.at = ap (λ o. option_map_or (λ q. q.at) o 0) there in
    let same : size taken ≡ size before = ap size is.becomes in
    let inside = is.hole.inside in
    ap (λ at. length (written taken.memory at bytes)) begins ∙ length_written taken.memory bytes is.at (omega arith)

-- ---- the whole of a call: an id is forgotten, and others leave for room

pub foreign_last : (region bare roomy after : Space) (cache less fewer last : List (ℕ × ℕ)) → ForeignStay region cache bare less → HaveLeft bare less roomy fewer → HaveLeft roomy fewer after last
    → ForeignStay region cache after last
foreign_last region bare roomy after cache less fewer last foreign left now =
    foreign_again region bare after cache less last foreign (left_again bare roomy after less fewer last left now).foreign

-- where there is room for a content, there is room once its id was forgotten
module _ (region bare : Space) (cache less : List (ℕ × ℕ)) (id n : ℕ) (order : less ≡ without id cache) (foreign : ForeignStay region cache bare less) (room : IsRoom region cache n) where
  shorter : length less ≤ length cache
  shorter = subst (λ es. length es ≤ length cache) (sym order) (without_fewer cache id)

  pub entries_left : length less < most_entries
  entries_left = let few = room.entries in let less = shorter in omega arith

  pub blocks_left : live bare < most bare
  blocks_left = let few = room.blocks in let count = foreign.count_stays in let same = foreign.most_stays in let less = shorter in omega arith

-- ---- a block for something else

pub is_aside : (region roomy after : Space) (cache fewer last : List (ℕ × ℕ)) (n number : ℕ) → HaveLeft region cache roomy fewer → HasRoom roomy fewer after last n number → IsAside region cache after last n number
is_aside region roomy after cache fewer last n number left room = record {
  before = room.before;
  foreign = (left_again region roomy room.before cache fewer last left room.left).foreign;
  taken = room.taken;
  apart = apart_taken room.before after last n number room.left.held room.taken;
}
