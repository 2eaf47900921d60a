-- Sample lines with what they are answered by, when too little is lent, and sessions that break the law of a line.
-- Assumes nothing.
use Rattle.std.specs.Prelude.{◌≡◌, ℕ, ◌+◌, List, [], ◌∷◌, ◌++◌, map, length, codes, pos, Some, None, Ok}
use Rattle.std.specs.List.{flat_map}
use Rattle.faults.specs.declared.LineFault.TheVariants.{FewWords}
use Rattle.faults.specs.declared.PageFault.TheVariants.{NoRoom}
use Rattle.faults.specs.declared.SheetFault.TheVariants.{Page, Line}
use Rattle.kinds.specs.declared.whole.WholeCell.{WholeCell}
use Rattle.sheets.specs.Answers.{answer_number}
use Rattle.sheets.specs.SampleCalls.{fresh, after_one}
use Rattle.sheets.specs.Sheet.{Model}
use Rattle.sheets.specs.declared.call.Success.TheVariants.{Done}
use Rattle.sessions.specs.Law.{LineLaw}
use Rattle.sessions.specs.Session.{View, on_whole, new_session, session_cells, whole_cells, weekday_cells, line_answer, line_after, reply, lent_refusal}

-- a line and the lines that it is answered by, without their line feeds
pub record Exchange : Type 0 where
  pub line : List ℕ
  pub answers : List (List ℕ)

-- what the lines are answered by, one after another, the first being line k
abbrev pub told : View → ℕ → List (List ℕ) → List (List ℕ)
told v k [] = []
told v k (line ∷ lines) = reply v (pos k) line ∷ told (line_after v line) (k + 1) lines

abbrev pub ended : List (List ℕ) → List ℕ
ended lines = flat_map (λ line. line ++ 10 ∷ []) lines

-- a new session answers the lines so
abbrev pub Answers : List Exchange → Type 0
Answers table = told new_session 1 (map (λ e. e.line) table) ≡ map (λ e. ended e.answers) table

-- a sheet is opened, 3x + 5y = 1 is taken, the sheet is shown, a plan is picked, x + y = 4 is contradicted, and
-- 6x + 10y = 2 is implied
abbrev pub sample : List Exchange
sample =
    record { line = codes "0103000000000000000200000001"; answers = codes "81030000000100000000FFFFFFFF" ∷ [] }
    ∷ (record { line = codes "0203000000030000000500000001"; answers = codes "81030000000200000000FFFFFFFF" ∷ [] }
    ∷ (record {
      line = codes "0500";
      answers =
          codes "81030000000300000000FFFFFFFF" ∷ (codes "8302FFFFFFFD00000002" ∷ (codes "8402FFFFFFFB00000003"
          ∷ []));
    }
    ∷ (record {
      line = codes "040100000002";
      answers =
          codes "81030000000400000000FFFFFFFF" ∷ (codes "8202FFFFFFF300000008" ∷ []);
    }
    ∷ (record { line = codes "0203000000010000000100000004"; answers = codes "81030000000500000010FFFFFFFF" ∷ [] }
    ∷ (record { line = codes "0203000000060000000A00000002"; answers = codes "81030000000600000001FFFFFFFF" ∷ [] }
    ∷ [])))))

-- the other answers that a line can have. Where two reasons apply to a line the first is given, and a sheet that is
-- shown after refused lines shows what it held before them
abbrev pub refusals : List Exchange
refusals =
    record { line = codes "050100000000"; answers = codes "81030000000100000008FFFFFFFF" ∷ [] }
    ∷ (record { line = codes "01020000000000000002"; answers = codes "8103000000020000000900000002" ∷ [] }
    ∷ (record { line = codes "0103000000050000001900010000"; answers = codes "8103000000030000000A00000004" ∷ [] }
    ∷ (record { line = codes "0103000000000000001900010000"; answers = codes "8103000000040000000B0000000C" ∷ [] }
    ∷ (record { line = codes "0103000000000000000200010000"; answers = codes "8103000000050000000C00000014" ∷ [] }
    ∷ (record { line = codes "0103000000070000000200000001"; answers = codes "81030000000600000000FFFFFFFF" ∷ [] }
    ∷ (record { line = codes "02030000000300000007FFFFFFFF"; answers = codes "8103000000070000000E0000000C" ∷ [] }
    ∷ (record { line = codes "0203000000030000000500000001"; answers = codes "81030000000800000000FFFFFFFF" ∷ [] }
    ∷ (record { line = codes "050"; answers = codes "81030000000900000003FFFFFFFF" ∷ [] }
    ∷ (record { line = codes "0a01"; answers = codes "81030000000A0000000400000001" ∷ [] }
    ∷ (record { line = codes "0601"; answers = codes "81030000000B0000000500000002" ∷ [] }
    ∷ (record { line = codes "060180000000"; answers = codes "81030000000C0000000600000000" ∷ [] }
    ∷ (record { line = codes "050180000000"; answers = codes "81030000000D0000000700000004" ∷ [] }
    ∷ (record { line = codes "0400"; answers = codes "81030000000E0000000900000002" ∷ [] }
    ∷ (record {
      line = codes "0500";
      answers =
          codes "81030000000F00000000FFFFFFFF" ∷ (codes "83020000000500000000" ∷ (codes "84020000000500000004"
          ∷ []));
    }
    ∷ (record { line = codes "0300"; answers = codes "81030000001000000000FFFFFFFF" ∷ [] }
    ∷ (record {
      line = codes "0500";
      answers =
          codes "81030000001100000000FFFFFFFF" ∷ (codes "83020000000000000000" ∷ (codes "84020000000100000000"
          ∷ (codes "84020000000000000001" ∷ [])));
    }
    ∷ (record { line = codes "0103000000000000000200000001"; answers = codes "81030000001200000000FFFFFFFF" ∷ [] }
    ∷ (record { line = codes "0203000000018000000100000000"; answers = codes "81030000001300000000FFFFFFFF" ∷ [] }
    ∷ (record { line = codes "0203000000010000000100000000"; answers = codes "8103000000140000000FFFFFFFFF" ∷ [] }
    ∷ (record {
      line = codes "0500";
      answers =
          codes "81030000001500000000FFFFFFFF" ∷ (codes "83020000000000000000" ∷ (codes "840280000001FFFFFFFF"
          ∷ []));
    }
    ∷ []))))))))))))))))))))

abbrev pub Samples : Type 0
Samples = Answers sample × Answers refusals

-- both ways to lend too little are refused, the output's first; enough is enough
abbrev pub Lent : Type 0
Lent =
    lent_refusal 4953 25 ∷ (lent_refusal 4953 24 ∷ (lent_refusal 4954 24 ∷ (lent_refusal 4954 25 ∷ [])))
    ≡ Some (Page NoRoom) ∷ (Some (Page NoRoom) ∷ (Some (Line FewWords) ∷ (None ∷ [])))

-- the largest sheet needs as many cells as a session has of each kind, so no line is answered 13
pub record EnoughCells : Type 0 where
  pub largest : session_cells ≡ 1225
  pub never : (v : View) (line : List ℕ) →
      length (whole_cells v) ≡ session_cells → length (weekday_cells v) ≡ session_cells →
      ¬ (answer_number (line_answer v line) ≡ 13)

-- 3x + 5y = 1
abbrev pub sum_one : List ℕ
sum_one = codes "0203000000030000000500000001"

-- the line that picks the choice 2
abbrev pub picks_two : List ℕ
picks_two = codes "040100000002"

-- a line answered 0 with this text behind the answer, from a sheet to a sheet
abbrev pub DoneSo : Model WholeCell → List ℕ → List ℕ → Model WholeCell → Type 0
DoneSo m line text after = LineLaw (on_whole m []) line (Ok Done) text (on_whole after [])

-- a session breaks the law where the equation is answered taken and the sheet stays as it was, where the sheet's
-- unknowns are lost, and where a clearing is answered done and the sheet stays as it was
pub record NoPretending : Type 0 where
  pub not_taken : ¬ DoneSo fresh sum_one [] fresh
  pub unknowns_lost : ¬ DoneSo fresh sum_one [] (record { cells = after_one.cells; unknowns = 0; moves = 0; list = 1 })
  pub not_cleared : ¬ DoneSo after_one (codes "0300") [] after_one
  -- where a sheet of one unknown is asked for and opened with two
  pub other_unknowns : ¬ DoneSo fresh (codes "0103000000000000000100000001") [] fresh
  -- behind the answer to a pick of the choice 2 stands the plan (-13, 8); (-3, 2), which skips the move, may not
  pub plan_behind : DoneSo after_one picks_two (codes "8202FFFFFFF300000008" ++ 10 ∷ []) after_one
  pub move_skipped : ¬ DoneSo after_one picks_two (codes "8202FFFFFFFD00000002" ++ 10 ∷ []) after_one
