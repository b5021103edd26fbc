-- The entities are looked at one by one.
use Rattle.plain_storage.proofs.SoundEntities.{AllSound}
use Rattle.plain_storage.proofs.sound.is_sound.Given as goal

abbrev pub invariant-entities : goal.invariant-entities
invariant-entities l = record {
  next : (goal.iterator-entities).can_next l.id-iterator;
  finite : (goal.iterator-entities).is_finite l.id-iterator;
  sound : AllSound l.types l.graph l.id-iterator → AllSound l.types l.graph l.initial.id-iterator;
}
