-- The text of the steps that are left of an event: in the form of the canonical text, with the names of the variables that an `if` changes in a
-- comment on its line. A group has no lines of its own: its steps stand in its place.
use Rattle.std.specs.Prelude.{ℕ, Bool, false, ◌||◌, codes, List, [], ◌∷◌, ◌++◌, filter}
use Rattle.std.specs.Str.{bytes_eq}
use Rattle.pay_meaning.specs.Language.{Condition, Statement, assign, pay, choose, group, Body, done, next}
use Rattle.pay_text.specs.Text.{condition_text, line_text, word_line, deeper, item_indent}

-- further names, each after `, `
abbrev pub further_names_text : List (List ℕ) → List ℕ
further_names_text [] = []
further_names_text (name ∷ rest) = codes ", " ++ (name ++ further_names_text rest)

-- names with `, ` between them; `nothing` where there is none
abbrev pub names_text : List (List ℕ) → List ℕ
names_text [] = codes "nothing"
names_text (name ∷ rest) = name ++ further_names_text rest

-- a line after this indent: `if C then // changes x, y`
abbrev pub choice_line : List ℕ → Condition → List (List ℕ) → List ℕ
choice_line indent condition changed =
    indent ++ (codes "if " ++ (condition_text condition ++ (codes " then // changes " ++ (names_text changed ++ codes "\n"))))

abbrev mutual
  -- whether a statement, or one in its branches or in its group, assigns the variable of this name
  pub assigns : List ℕ → Statement → Bool
  assigns name (assign other number) = bytes_eq name other
  assigns name (pay leg number) = false
  assigns name (choose condition yes_part no_part) = assigns_in name yes_part || assigns_in name no_part
  assigns name (group body) = assigns_in name body

  -- whether one of these statements does
  pub assigns_in : List ℕ → Body → Bool
  assigns_in name done = false
  assigns_in name (next statement rest) = assigns name statement || assigns_in name rest

-- those of these names that one of two branches assigns, in their order
abbrev pub changed_names : List (List ℕ) → Body → Body → List (List ℕ)
changed_names names yes_part no_part = filter (λ name. assigns_in name yes_part || assigns_in name no_part) names

abbrev mutual
  -- what stands in the place of a statement: the statement, or those of a group
  pub opened : Statement → List Statement
  opened (assign name number) = assign name number ∷ []
  opened (pay leg number) = pay leg number ∷ []
  opened (choose condition yes_part no_part) = choose condition yes_part no_part ∷ []
  opened (group body) = opened_body body

  -- statements once their groups are opened
  pub opened_body : Body → List Statement
  opened_body done = []
  opened_body (next statement rest) = opened statement ++ opened_body rest

-- after this indent a line `else`, and then these lines; nothing where the branch has no steps
abbrev pub else_lines : {A : Type 0} → List ℕ → List A → List ℕ → List ℕ
else_lines indent [] lines = []
else_lines indent (first ∷ rest) lines = word_line indent (codes "else") ++ lines

abbrev mutual
  -- `name = number;`, `leg pays number;`, or an `if` with the lines of its branches; `else` stands only where its branch has a step once its groups
  -- are opened
  pub statement_lines : List (List ℕ) → List ℕ → Statement → List ℕ
  statement_lines names indent (assign name number) = line_text indent name (codes " = ") number
  statement_lines names indent (pay leg number) = line_text indent leg (codes " pays ") number
  statement_lines names indent (choose condition yes_part no_part) =
      choice_line indent condition (changed_names names yes_part no_part) ++ (body_lines names (deeper indent) yes_part
      ++ (else_lines indent (opened_body no_part) (body_lines names (deeper indent) no_part) ++ word_line indent (codes "endif")))
  statement_lines names indent (group body) = body_lines names indent body

  -- the lines of statements in their order
  pub body_lines : List (List ℕ) → List ℕ → Body → List ℕ
  body_lines names indent done = []
  body_lines names indent (next statement rest) = statement_lines names indent statement ++ body_lines names indent rest

-- the text of the steps of an event, where the variables have these names in this order: each line two spaces in, and two more inside each `if`
abbrev pub step_text : List (List ℕ) → Body → List ℕ
step_text names body = body_lines names item_indent body
