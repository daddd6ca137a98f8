-- The state that a log leaves, as it is handed out.
use Rattle.std.specs.Prelude.{◌≡◌}
use Rattle.nb_history.specs.Reading.{Reading}
use Rattle.nb_core.specs.declared.replayed.Reading.{Reading as Parts}

-- these are the parts of what stands
pub record AreParts (p : Parts) (r : Reading) : Type 0 where
  pub sheet : p.sheet.sheet ≡ r.sheet
  pub starts : p.starts.items ≡ r.starts
  pub disposed : p.disposed ≡ r.disposed
  pub tickets : p.tickets.items ≡ r.tickets
