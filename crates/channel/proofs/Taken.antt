-- What a stored part makes of what the disk holds.
use Rattle.std.proofs.Common.{◌≡◌, ℕ, ◌+◌, ◌-◌, ◌==◌, Bool, false, cond, List, [], ◌∷◌, ◌++◌, option_map, Some, None, sym, ap, subst, ◌∙◌, arith}
use Rattle.std.specs.Prelude.{IsSomeAnd}
use Rattle.std.proofs.lemmas.Bool.{ne_eqb}
use Rattle.graph_model.specs.declared.entity.Record.{Record}
use Rattle.channel_files.specs.declared.place.Place.{Place}
use Rattle.channel_files.specs.Channel.{Channel}
use Rattle.channel_files.specs.Chunks.{content_of}
use Rattle.channel_files.specs.Heads.{chunk_of}
use Rattle.channel.specs.Core.{last_part, log_next_id, next_before}
use Rattle.channel.specs.Entities.{chunk_for}
use Rattle.channel.specs.Holding.{AreAlike, HasGained, holding}
use Rattle.channel.specs.OnDisk.{IsOnDisk}
use Rattle.channel.specs.Parts.{IsPart}
use Rattle.channel.specs.Shown.{DiskTable, disk_before, disk_held, disk_in}
use Rattle.channel.specs.State.{ChannelState}
use Rattle.channel.proofs.PartShows.{entity_in_it, over}
use Rattle.channel_files.proofs.Tables.{table_before}
use Rattle.channel.proofs.ShownParts.{all_read_to}

-- what is told while a test is false
is_some_there : (b : Bool) (d : DiskTable) (P : DiskTable → Type 0) → b ≡ false → P d → IsSomeAnd (cond b None (Some d)) P
is_some_there b d P is holds = subst (λ (b : Bool). IsSomeAnd (cond b None (Some d)) P) (sym is) holds

pub part_more : {D : Type 0} (reads : D → ℕ → List ℕ) (c new : ChannelState D) (number next : ℕ) (place : Place) (rs : List Record) → IsOnDisk reads c → IsPart rs → number ≡ last_part c + 1
    → last_part new ≡ number → log_next_id new ≡ next → next_before new ≡ log_next_id c → new.files.confirmed ≡ last_part c → content_of (reads new.files.disk) ≡ content_of (reads c.files.disk) ++ chunk_of number place (chunk_for rs) ∷ []
    → HasGained rs next (holding reads c).held (holding reads new)
part_more reads c new number next place rs on part number_is last_is next_is before_is confirmed content_is =
    let cs = content_of (reads c.files.disk) in
    let m = last_part c in
    let content : content_of (reads new.files.disk) ≡ cs ++ chunk_of (m + 1) place (chunk_for rs) ∷ [] = content_is ∙ ap (λ (k : ℕ). cs ++ chunk_of k place (chunk_for rs) ∷ []) number_is in
    let last : last_part new ≡ m + 1 = last_is ∙ number_is in
    let before : last_part new - 1 ≡ m = omega (arith, last) in
    let waits : (new.files.confirmed == last_part new) ≡ false = ne_eqb new.files.confirmed (last_part new) (λ e. omega (arith, e, confirmed, last)) in record {
      held = record {
        entities = λ x. (λ i. (disk_in (last i) (content i) 0).entities x) ∙ over m cs place rs part (all_read_to reads c on) x;
        next_id = next_is;
      };
      before = is_some_there (new.files.confirmed == last_part new) (disk_before reads new) (λ b. AreAlike b (disk_held reads c)) waits (record {
        entities = λ x. (λ i. (disk_in (before i) (content i) 0).entities x) ∙ ap (option_map entity_in_it) (table_before m cs (chunk_of (m + 1) place (chunk_for rs)) x (omega arith));
        next_id = before_is;
      });
    }

-- so it is with the files that a part was stored in, whatever else changed
pub more_files : {D : Type 0} (reads : D → ℕ → List ℕ) (c : ChannelState D) (files : Channel D) (number next : ℕ) (place : Place) (rs : List Record) → IsOnDisk reads c → IsPart rs
    → number ≡ last_part c + 1 → files.transactions.inventory.state.last ≡ number → files.transactions.inventory.state.next_id ≡ next
    → files.transactions.inventory.state.next_id_before ≡ log_next_id c → files.confirmed ≡ last_part c → content_of (reads files.disk) ≡ content_of (reads c.files.disk) ++ chunk_of number place (chunk_for rs) ∷ []
    → HasGained rs next (holding reads c).held (holding reads (record c { files = files }))
more_files reads c files number next place rs on part number_is last_is next_is before_is confirmed content_is =
    part_more reads c (record c { files = files }) number next place rs on part number_is last_is next_is before_is confirmed content_is
