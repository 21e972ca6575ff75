-- How a job is answered, and what it leaves in the lent slice. Definitions only.
use Rattle.std.specs.Prelude.{◌≡◌, cond, List, ℕ, ◌≤◌, ltb, length, take, Result, Ok, Err}
use Rattle.definitions.specs.Calls.{written}
use Rattle.definitions.specs.JobText.{job_output}
use Rattle.job_answer.specs.Sizes.{output_size}
use Rattle.job_answer.specs.declared.TooShort.{TooShort}

-- how a text is answered by so many places: its length, or that they are too few
abbrev pub printed_in : ℕ → List ℕ → Result ℕ TooShort
printed_in places text = cond (ltb places (length text)) (Err (record { needed = length text })) (Ok (length text))

-- the lent bytes at exit
abbrev pub printed_output : List ℕ → List ℕ → List ℕ
printed_output text out = cond (ltb (length out) (length text)) out (written text out)

-- the answer and the lent bytes are those of a text, which has at most outputSize bytes
pub record JobAnswered (text out : List ℕ) (r : Result ℕ TooShort) (out' : List ℕ) : Type 0 where
  pub answers : r ≡ printed_in (length out) text
  pub writes : out' ≡ printed_output text out
  pub bounded : length text ≤ output_size

-- how many bytes the program reads of its input: more than the longest job has
abbrev pub buffer_size : ℕ
buffer_size = 4096

-- a buffer of that size, of which the first bytes were read
pub record BufferRead (buffer : List ℕ) (count : ℕ) : Type 0 where
  pub size : length buffer ≡ buffer_size
  pub few : count ≤ length buffer

-- the answer is that of every input whose first bytes, as many as the buffer holds, are these
pub record InputAnswered (bytes out : List ℕ) (r : Result ℕ TooShort) (out' : List ℕ) : Type 0 where
  pub answered : (input : List ℕ) → take buffer_size input ≡ bytes → JobAnswered (job_output input) out r out'
