-- What a kept walk has to be for the code to go on with it, and what the functions leave. Definitions only.
use Rattle.std.specs.Prelude.{◌≡◌, List, ℕ, zero, suc, ◌+◌, ◌-◌, ◌*◌, ◌≤◌, ◌<◌, length, ℤ, Float}
use Rattle.lists.specs.Places.{places}
use Rattle.definitions.specs.Table.{table, largest_dimension, largest_budget}
use Rattle.definitions.specs.Shapes.{Shaped}
use Rattle.definitions.specs.Machine.{run_for, begin}
use Rattle.distance.specs.Residuals.{residuals}
use Rattle.resume.specs.declared.OpenLevel.{OpenLevel}
use Rattle.resume.specs.declared.Walk.{Walk}
use Rattle.resume.specs.View.{level_at, machine_of}

-- An open level lies between `low` and n, and its generator has made few steps: a node costs at most two.
pub record Placed (n nodes low : ℕ) (f : OpenLevel) : Type 0 where
  pub lowest : low ≤ f.level
  pub inside : f.level < n
  pub few : f.step ≤ 2 * nodes + 1

-- The first so many levels fall, the last of them being at least `low`.
unfoldable pub Falling : ℕ → ℕ → List OpenLevel → ℕ → ℕ → Type 0
Falling n nodes levels low zero = low ≤ n
Falling n nodes levels low (suc i) = Placed n nodes low (level_at levels i) × Falling n nodes levels (suc (level_at levels i).level) i

-- A kept walk over this table and target, without the residuals.
pub record Sound (weights mu target : List Float) (s : Walk) : Type 0 where
  pub shape : Shaped largest_dimension weights mu target
  pub bounded : s.nodes ≤ largest_budget
  pub point_length : length s.point ≡ largest_dimension
  pub best_length : length s.best ≡ largest_dimension
  pub levels_length : length s.levels ≡ largest_dimension
  pub falling : Falling (length weights) s.nodes s.levels 0 s.count

-- From level d up, the residuals are those of the point.
abbrev pub Beside : ℕ → List Float → List Float → List ℤ → ℕ → Type 0
Beside n target rest point d = places n d rest ≡ residuals target d (places n d point)

-- With the residuals, which are those of the point above each open level.
pub record Ready (weights mu target rest : List Float) (s : Walk) : Type 0 where
  pub sound : Sound weights mu target s
  pub rest_length : length rest ≡ largest_dimension
  pub beside : (i : ℕ) → i < s.count → Beside (length weights) target rest s.point ((level_at s.levels i).level + 1)

-- ---- `run_to`
pub record RunReady (weights mu target rest : List Float) (budget : ℕ) (s : Walk) : Type 0 where
  pub ready : Ready weights mu target rest s
  pub budget_bounded : budget ≤ largest_budget

pub record RanTo (weights mu target : List Float) (budget : ℕ) (s : Walk) (rest' : List Float) (r : Walk) : Type 0 where
  pub runs : machine_of weights r ≡ run_for (table weights mu) target (budget - s.nodes) (machine_of weights s)
  pub ready : Ready weights mu target rest' r

-- ---- `begun`: no residual is read before the walk goes below its first level
pub record Begun (weights mu target : List Float) (radius : Float) (r : Walk) : Type 0 where
  pub begins : machine_of weights r ≡ begin (table weights mu) target radius
  pub ready : (rest : List Float) → length rest ≡ largest_dimension → Ready weights mu target rest r

-- ---- `residuals_of`
pub record ResidualsReady (target : List Float) (point : List ℤ) (rest : List Float) : Type 0 where
  pub small : length target ≤ largest_dimension
  pub point_length : length point ≡ largest_dimension
  pub rest_length : length rest ≡ largest_dimension

pub record ResidualsOf (target : List Float) (point : List ℤ) (rest' : List Float) : Type 0 where
  pub rest_length : length rest' ≡ largest_dimension
  pub beside : (d : ℕ) → d ≤ length target → Beside (length target) target rest' point d
