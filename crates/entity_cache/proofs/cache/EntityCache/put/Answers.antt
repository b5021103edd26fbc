use Rattle.std.proofs.Common.{◌≡◌, ◌∷◌, length, None, OnOk, refl, sym, ap, subst, ◌∙◌}
use Rattle.entity_region.specs.Space.{with_block, with_bytes}
use Rattle.entity_cache.proofs.KeepLemmas.{put_yes, put_no, sized_written}
use Rattle.entity_cache.proofs.cache.EntityCache.put.Goals as goal
use Rattle.entity_cache.proofs.cache.EntityCache.put.Goals.{in-Ok, in-Err}

pub returns : goal.returns
returns c = λ before held taken.
    let region = c.args.region.now in
    let cache = c.args.self.now in
    let bytes = c.args.bytes.now in
    let block = c.args.block in
    let now = with_bytes region block bytes in
    let len : length bytes ≡ length c.bytes_mut.result.now = sym (ap length c.copy_from_slice.ensures.after) ∙ c.copy_from_slice.ensures.len in
    let written = c.bytes_mut.ensures.written bytes len in
    let sized = sized_written before region (length bytes) block bytes taken refl in
    elim c.match-keep.branch [
      | in-Ok w ↦
          let order = subst (λ o. OnOk o (c.keep.new.self ≡ (c.args.id, block) ∷ c.self.inside.blocks)) w.in-Ok.is c.keep.ensures.order in
          let region_is : c.match-keep.region ≡ now = w.region-is ∙ ap (with_bytes region block) c.copy_from_slice.ensures.after in
          rw (region_is, w.result-is) (put_yes before region now cache c.keep.new.self c.args.id block bytes held taken written refl sized c.requires.new (order ∙ ap (λ es. (c.args.id, block) ∷ es) c.self.view_is))
      | in-Err w ↦
          let region_is : c.match-keep.region ≡ with_block now block None =
          w.region-is ∙ w.give.ensures ∙ ap (λ b. with_block (with_bytes region block b) w.in-Err.refused.content None) c.copy_from_slice.ensures.after ∙ ap (λ n. with_block now n None) w.in-Err.ensures.back in
          rw (region_is, w.result-is) (put_no before region now cache c.keep.new.self c.args.id block bytes held taken written refl sized c.requires.new (w.in-Err.ensures.refused ∙ c.self.view_is))
    ]
