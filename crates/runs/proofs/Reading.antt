-- Whether some bytes are read.
use Prim.Native.Nat.{ℕ, ◌*◌, ◌≤◌}
use mathlib.Core.Bool.{Bool, true, false, true≢false}
use mathlib.Core.List.{List}
use mathlib.Core.Path.{◌≡◌, refl, sym, ◌∙◌}
use lib.Dec.{leb}
use lib.ListN.{length}
use borrow.Author.Tests.{leb-true}
use Rattle.table.proofs.Laws.{and-true}
use Rattle.machine.specs.State.{view}
use Rattle.texts.specs.Text.{line_size}
use Rattle.runs.specs.declared.Run.{Run}
use Rattle.runs.specs.declared.Answered.{Answered}
use Rattle.runs.specs.Runs.{told, is_read, Shows, AnswersTo}
use Rattle.runs.proofs.Buffers.{none_put, none_used}

module _ (run : Run) (bytes buffer : List ℕ) {b : Bool} (test : b ≡ is_read run bytes buffer) where
  pub not_read : b ≡ false → AnswersTo run bytes buffer buffer (record { run = run; count = 0 })
  not_read e =
      let z : is_read run bytes buffer ≡ false = sym test ∙ e in
      record {
        shows = rw z (record { text = sym (none_put buffer); count = sym (none_used buffer); state = refl; table = refl; line = refl; live = refl });
        kept = λ _. refl;
      }

  pub has_room_lem : b ≡ true → line_size * length bytes ≤ length buffer
  has_room_lem e = leb-true (line_size * length bytes) (length buffer) (and-true (leb (line_size * length bytes) (length buffer)) run.live (sym test ∙ e)).0

  pub is_read_lem : b ≡ true → {after : List ℕ} {r : Answered} → Shows (told bytes (view run.port) run.line) run.port.table buffer after r → AnswersTo run bytes buffer after r
  is_read_lem e s =
      let z : is_read run bytes buffer ≡ true = sym test ∙ e in
      record { shows = rw z s; kept = λ n. absurd (true≢false (sym z ∙ n)) }
