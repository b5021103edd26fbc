-- The inventory that the fields of an `Inventory` keep.
use Rattle.transactions_file.specs.Inventory.{State}
use Rattle.transactions_file.specs.declared.inventory.Inventory.TheInside.{Inside}

abbrev pub state_of : Inside → State
state_of i = record {
  files = i.files.pairs;
  created = i.created;
  last = i.last;
  next_id = i.next_id;
  last_before = i.last_before;
  next_id_before = i.next_id_before;
  entry = i.entry;
}
