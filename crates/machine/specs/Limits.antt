-- The limits of a port, each under one name.
use Rattle.std.specs.Prelude.{ℕ}
-- The places of a class queue are a rule of tables: 20 keeps a class's frames within them.
pub use Rattle.table.specs.Limits.{class_places}

-- The clock's last value.
abbrev pub last_clock : ℕ
last_clock = 1099511627775

-- The most byte-times of an advance.
abbrev pub most_steps : ℕ
most_steps = 65535

-- The best-effort mark of a frame.
abbrev pub best_mark : ℕ
best_mark = 32

-- The mark of no frame.
abbrev pub no_mark : ℕ
no_mark = 33

-- The places of the best-effort queue: at most 16 wait.
abbrev pub best_places : ℕ
best_places = 16
