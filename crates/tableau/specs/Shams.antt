-- 'Four sham checkers have to fall short': each a function from bytes to a reply.
use Rattle.std.specs.Prelude.{◌≡◌, Bool, true, false, cond, ◌||◌, List, [], ◌∷◌, ℕ, eqb, Option}
use Rattle.tableau.specs.declared.Letter.{Letter}
use Rattle.tableau.specs.declared.Reason.{Reason}
use Rattle.tableau.specs.File.{Line, shape, letters, split, LF}
use Rattle.tableau.specs.Tree.{passed}
use Rattle.tableau.specs.Reply.{Reply, Verdict, accept, refuse, reason_number, reply_of, reply, run_line, run_lines, verdict_on, start}
use Rattle.tableau.specs.Claims.{Checker, Demand3, has_letter, closes_branch, lines_of, count_if}
use Rattle.tableau.specs.Cases.{file_of, F}

abbrev pub yes' : ℕ → ℕ → ℕ → ℕ → Reply
yes' t a s c = record { is_yes = true; number = 0; line = 0; terms = t; assumptions = a; steps = s; closings = c; place = 0 }

abbrev pub no' : ℕ → ℕ → Reply
no' n i = record { is_yes = false; number = n; line = i; terms = 0; assumptions = 0; steps = 0; closings = 0; place = 0 }

-- "One that says no to all, or gives 15, 16 or 17 to all": one number and line for every file
abbrev pub no_to_all : ℕ → ℕ → Checker
no_to_all number line = λ file. no' number line

-- "One that says yes to all": the same counts for every file
abbrev pub yes_to_all : ℕ → ℕ → ℕ → ℕ → Checker
yes_to_all t a s c = λ file. yes' t a s c

-- "One that checks the first step, or the first alternative, and waves on the others": reads up to the first line of a kind, and says
-- yes where nothing but an open branch stands against it
unfoldable pub up_to_first : (Option (Line Letter) → Bool) → List (List ℕ) → List (List ℕ)
up_to_first f [] = []
up_to_first f (l ∷ ls) = elim (f (shape letters l)) [ true ↦ l ∷ [] ∷ [] | false ↦ l ∷ up_to_first f ls ]

unfoldable pub wave_on : Verdict → Reply
wave_on (accept c) = reply_of (accept c)
wave_on (refuse r i) = cond (eqb (reason_number r) (reason_number Reason.BranchOpen)) (yes' 0 0 0 0) (reply_of (refuse r i))

-- (where there is no such line its reply is right)
unfoldable pub first_only : (Option (Line Letter) → Bool) → Checker
first_only f file = elim (eqb (count_if f (lines_of file)) 0) [ true ↦ reply file | false ↦ wave_on (verdict_on (run_lines run_line (up_to_first f (split LF file)) 0 (passed start))) ]

abbrev pub first_step_only : Checker
first_step_only = first_only (has_letter Letter.S)

abbrev pub first_alternative_only : Checker
first_alternative_only = first_only closes_branch

-- "One that invents step or closing counts": any checker with a count that is not the file's own, at a file that it or the rules accept
pub record Invents (count : Reply → ℕ) (test : Option (Line Letter) → Bool) (checker : Checker) (file : List ℕ) : Type 0 where
  pub accepted : ((checker file).is_yes || (reply file).is_yes) ≡ true
  pub differs : ¬ (count (checker file) ≡ count_if test (lines_of file))

abbrev pub InventsSteps : Checker → List ℕ → Type 0
InventsSteps = Invents (λ r. r.steps) (has_letter Letter.S)

abbrev pub InventsClosings : Checker → List ℕ → Type 0
InventsClosings = Invents (λ r. r.closings) closes_branch

-- a checker's reply to a file is not the one that the second demand asks for
abbrev pub Breaks2At : Checker → List ℕ → Type 0
Breaks2At checker file = ¬ (checker file ≡ reply file)

-- Each sham breaks the demand that document 01 says it breaks.
pub record ShamsFallShort : Type 0 where
  pub no_to_all_lem : (number line : ℕ) → Breaks2At (no_to_all number line) (file_of F)
  pub yes_to_all_lem : (t a s c : ℕ) → ¬ Demand3 (yes_to_all t a s c)
  pub yes_to_no_bytes : (t a s c : ℕ) → Breaks2At (yes_to_all t a s c) []
  pub first_step : ¬ Demand3 first_step_only
  pub first_alternative : ¬ Demand3 first_alternative_only
  pub invented_steps : (checker : Checker) (file : List ℕ) → InventsSteps checker file → Breaks2At checker file
  pub invented_closings : (checker : Checker) (file : List ℕ) → InventsClosings checker file → Breaks2At checker file
  -- there are such checkers: F's own reply to every file, with a step or a closing more
  pub some_invent : InventsSteps (yes_to_all 4 2 3 1) (file_of F) × InventsClosings (yes_to_all 4 2 2 2) (file_of F)

-- AND EACH KIND OF SHAM, whatever else its checkers say
-- "One that says no to all, or gives 15, 16 or 17 to all", or any other number
abbrev pub SaysNoToAll : Checker → Type 0
SaysNoToAll checker = (file : List ℕ) → (checker file).is_yes ≡ false

abbrev pub GivesToAll : ℕ → Checker → Type 0
GivesToAll n checker = (file : List ℕ) → (checker file).number ≡ n

-- "One that says yes to all", with whatever counts, the file's own too
abbrev pub SaysYesToAll : Checker → Type 0
SaysYesToAll checker = (file : List ℕ) → (checker file).is_yes ≡ true

-- any checker that says yes wherever `first_only` does, with whatever counts
abbrev pub WavesOn : (Option (Line Letter) → Bool) → Checker → Type 0
WavesOn f checker = (file : List ℕ) → (first_only f file).is_yes ≡ true → (checker file).is_yes ≡ true

pub record ShamKindsFallShort : Type 0 where
  pub any_no_to_all : (checker : Checker) → SaysNoToAll checker → Breaks2At checker (file_of F)
  pub any_number_to_all : (checker : Checker) (n : ℕ) → ¬ (n ≡ 0) → GivesToAll n checker → Breaks2At checker (file_of F)
  pub any_yes_to_all : (checker : Checker) → SaysYesToAll checker → ¬ Demand3 checker
  pub any_yes_to_no_bytes : (checker : Checker) → SaysYesToAll checker → Breaks2At checker []
  pub any_first_step : (checker : Checker) → WavesOn (has_letter Letter.S) checker → ¬ Demand3 checker
  pub any_first_alternative : (checker : Checker) → WavesOn closes_branch checker → ¬ Demand3 checker
