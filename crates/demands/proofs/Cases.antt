-- Every row of the table of cases holds, by computation.
use mathlib.Core.Path.{◌≡◌, refl, sym, subst}
use Prim.Native.Nat.{ℕ}
use lib.Dec.{eqb}
use mathlib.Core.List.Memᴰ
use mathlib.Core.List.{List, [], ◌∷◌, Memᴰ}
use Rattle.text.specs.Hex.{hex}
use Rattle.text.specs.Lines.{lines, numbers_of}
use Rattle.automaton.specs.Automaton.{listed, heard, moves}
use Rattle.tables.specs.Keys.{member}
use Rattle.program.specs.Reading.{judge_as, judge, after_as, after, read_from, read_file}
use Rattle.program.specs.Chosen.{largest, numbers}
use Rattle.program.specs.Checks.{first_met, checked}
use Rattle.program.specs.Writing.{nodes_frames, frames_with, text, written_with}
use Rattle.reach.specs.Configurations.{number, routine_of, node_of, root_of, state_of, none_set}
use Rattle.reach.specs.Worklist.{lowest, mark, wake, mark_when, summary, on_event, event_when, on_returns, root_when, on_a_call, on_label, label_when, on_steps, wake_roots, calls, wake_when, wake_states, caller_when, wake_callers, learn, take_from, take_one, work, opened, analysis_at}
use Rattle.reach.specs.Sizes.{summaries, enough_iterations}
use Rattle.rows.specs.Rows.{pairs_from, times_met, table_refusal, faulty_pair, next_state}
use Rattle.reach.specs.Marks.{violations_from}
use Rattle.analysis.specs.Answers.{same, analyze_answer, marks_after, work_after}
use Rattle.edit_line.specs.EditLines.{edit_from, read_edit, wanted_edit}
use Rattle.edit.specs.Editing.{has_edge, without, inserted, edited_program}
use Rattle.exchange.specs.Changing.{others, inserted_all, exchanged_program}
use Rattle.exchange_text.specs.ExchangeText.{any, any_astray, exchange_from, wanted_exchange}
use Rattle.exchange_text.specs.Wanted.{wanted_change}
use Rattle.repair.specs.Repairs.{repaired, InsideOutNumber}
use Rattle.program.specs.Sample.{bytes}
use Rattle.rewrite.specs.Room.{room_wanted, room_answer}
use Rattle.base.specs.Searches.{seek, any_from}
use Rattle.blocked.specs.Blocks.{first_barred, is_called, no_return, is_blocked, blocked_by, block_from}
use Rattle.block_list.specs.Answers.{block_answer}
use Rattle.base.specs.Flags.{count_set}
use Rattle.saved.specs.Saved.{set_from, text_of}
use Rattle.saved.specs.Answers.{Way, over, back, move_answer, move_output, move_work}
use Rattle.desk.specs.Entries.{sizes, faulty-pair, next_blocked, analyze, exchange_sizes, Lent, Back, analyze_back, move_back, repair_back, program_in, repaired_in, Gives}
use Rattle.demands.specs.Lists.{entry}
use Rattle.demands.specs.Lists as repair
use Rattle.demands.specs.Cases.{Fresh, Changed, Limited, Case, Said, lent_fresh, Analyzed, Saved, lent_saved, old_marks_of, MovedTo, SavedBoth, lent_change, Repaired, RepairedBoth, lent_limited, Tried, lent_asked, Told, lent_pair_asked, PairAnswered, lent_cut_asked, CutAnswered, Holds, P1, P2, P3, P4, P5, P6, P7, P8, P9, P10, R1, R2, T1, T2, T3, T4, E1, E2, E3, E4, E5, H1, H2, H3, H4, H5, H6, B1, B2, B3, B4, B5, B6, L1, L2, L3, L4, S1, S2, S3, S4, S5, S6, S7, S8, M1, M2, table}
use Rattle.demands.proofs.EntriesGive.{forward_gives, inside_out_gives}
use Rattle.demands.proofs.OneAnswer.{one_number}
use Rattle.demands.proofs.CasesReanalyzed.{p5_reanalyzed, p6_reanalyzed, p8_reanalyzed, r1_reanalyzed, r2_reanalyzed, e1_reanalyzed, e5_reanalyzed}

-- what the rows compute with: to unfold one of these three is to unfold all that it names
editing : Unit {0}
unfolding lines numbers_of largest numbers judge_as judge after_as after read_from read_file edit_from read_edit has_edge without inserted edited_program wanted_edit others inserted_all exchanged_program any any_astray exchange_from wanted_exchange first_met checked repaired same analyze_answer marks_after work_after written_with frames_with nodes_frames text hex room_wanted room_answer
editing = tt

analyzing : Unit {0}
unfolding listed heard moves member number routine_of node_of root_of state_of none_set lowest mark wake mark_when summary on_event event_when on_returns root_when on_a_call on_label label_when on_steps wake_roots calls wake_when wake_states caller_when wake_callers learn take_from take_one work opened analysis_at summaries enough_iterations violations_from
analyzing = tt

-- the table of a file with rows
tabling : Unit {0}
unfolding pairs_from times_met table_refusal faulty_pair next_state
tabling = tt

-- where runs are cut off
cutting : Unit {0}
unfolding seek any_from first_barred is_called no_return is_blocked blocked_by block_from block_answer
cutting = tt

-- saved marks
saving : Unit {0}
unfolding set_from text_of move_answer move_output move_work count_set
saving = tt

-- ---- what the functions give back for the rows

abbrev moved_back : Way → List ℕ → Lent → Back
moved_back way given b =
    move_back b (move_answer way b.file given b.output b.work) (move_output way b.file given b.output b.work) (move_work way b.file given b.work)

abbrev over_back : Saved → Back
over_back c = moved_back over (old_marks_of c) (lent_saved c (old_marks_of c) [] (bytes c.frames))

abbrev back_back : Saved → Back
back_back c = moved_back back (bytes c.frames) (lent_saved c [] (bytes c.frames) (old_marks_of c))

by_moves : (c : Saved) → MovedTo (bytes c.frames) (over_back c) → MovedTo (old_marks_of c) (back_back c) → SavedBoth c
by_moves c h k =
    record { over = λ a g. subst (MovedTo (bytes c.frames)) (sym g) h; back = λ a g. subst (MovedTo (old_marks_of c)) (sym g) k }

abbrev analyzed_back : Lent → Back
analyzed_back b =
    analyze_back b (analyze_answer b.file b.marks b.work b.limit) (marks_after b.file b.marks b.work b.limit) (work_after b.file b.marks b.work)

abbrev fresh_back : Fresh → Back
fresh_back c = analyzed_back (lent_fresh c)

abbrev limited_back : Limited → Back
limited_back c = analyzed_back (lent_limited c)

-- whatever routines are answered
abbrev changed_back : Changed → ℕ → Back
changed_back c routines = repair_back (repaired_in c.form (lent_change c)) routines

by_analysis : (c : Fresh) → Analyzed c (fresh_back c) → (a : Back) → Gives analyze (lent_fresh c) a → Analyzed c a
by_analysis c h a g = subst (Analyzed c) (sym g) h

by_limit : (c : Limited) → Tried c (limited_back c) → (a : Back) → Gives analyze (lent_limited c) a → Tried c a
by_limit c h a g = subst (Tried c) (sym g) h

-- the number that the inside-out repair answers, for a change that is wanted so
abbrev Routines : Changed → Back → Type 0
Routines c a = InsideOutNumber (eqb c.refused 0) (wanted_change c.form (program_in (lent_change c)) (bytes c.text)) (program_in (lent_change c)) a.values.reanalyzed

by_repairs : (c : Changed) → ((k : ℕ) → Repaired c (changed_back c k)) → ((a : Back) → Routines c a → Said (λ n. a.values.reanalyzed ≡ n) c.reanalyzed) → RepairedBoth c
by_repairs c h r =
    record {
      forward = λ a g. subst (Repaired c) (sym (forward_gives c.form (lent_change c) a g)) (h 0);
      inside_out = λ a g. given a g;
      reanalyzed = λ a g.
          r a (subst (λ (n : ℕ). InsideOutNumber (eqb n 0) (wanted_change c.form (program_in (lent_change c)) (bytes c.text)) (program_in (lent_change c)) a.values.reanalyzed)
          (given a g).refused (inside_out_gives c.form (lent_change c) a g).1);
    }
  where
    given : (a : Back) → Gives (entry c.form repair.inside_out) (lent_change c) a → Repaired c a
    given a g = subst (Repaired c) (sym (inside_out_gives c.form (lent_change c) a g).0) (h a.values.reanalyzed)

-- ---- the rows

p1 : Analyzed P1 (fresh_back P1)
unfolding editing analyzing
p1 = record { accepted = refl; marks = refl; violating = (refl, refl); iterations = tt }

p2 : Analyzed P2 (fresh_back P2)
unfolding editing analyzing
p2 = record { accepted = refl; marks = tt; violating = tt; iterations = refl }

p3 : Analyzed P3 (fresh_back P3)
unfolding editing analyzing
p3 = record { accepted = refl; marks = refl; violating = (refl, refl); iterations = refl }

p4 : Analyzed P4 (fresh_back P4)
unfolding editing analyzing
p4 = record { accepted = refl; marks = refl; violating = (refl, refl); iterations = refl }

p5 : (k : ℕ) → Repaired P5 (changed_back P5 k)
unfolding editing analyzing
p5 k = record { refused = refl; marks = refl; second = refl; size = refl; output = refl }

p5_routines : (a : Back) → Routines P5 a → a.values.reanalyzed ≡ 3
unfolding editing
p5_routines a x = one_number x p5_reanalyzed

p6 : (k : ℕ) → Repaired P6 (changed_back P6 k)
unfolding editing analyzing
p6 k = record { refused = refl; marks = refl; second = refl; size = refl; output = refl }

p6_routines : (a : Back) → Routines P6 a → a.values.reanalyzed ≡ 1
unfolding editing
p6_routines a x = one_number x p6_reanalyzed

p7 : Analyzed P7 (fresh_back P7)
unfolding editing analyzing
p7 = record { accepted = refl; marks = refl; violating = (refl, refl); iterations = refl }

p8 : (k : ℕ) → Repaired P8 (changed_back P8 k)
unfolding editing analyzing
p8 k = record { refused = refl; marks = refl; second = refl; size = refl; output = refl }

p8_routines : (a : Back) → Routines P8 a → a.values.reanalyzed ≡ 0
unfolding editing
p8_routines a x = one_number x p8_reanalyzed

p9 : (k : ℕ) → Repaired P9 (changed_back P9 k)
unfolding editing analyzing
p9 k = record { refused = refl; marks = refl; second = refl; size = refl; output = refl }

p10 : (k : ℕ) → Repaired P10 (changed_back P10 k)
unfolding editing analyzing
p10 k = record { refused = refl; marks = refl; second = refl; size = refl; output = refl }

r1 : (k : ℕ) → Repaired R1 (changed_back R1 k)
unfolding editing analyzing
r1 k = record { refused = refl; marks = refl; second = refl; size = refl; output = refl }

r1_routines : (a : Back) → Routines R1 a → a.values.reanalyzed ≡ 3
unfolding editing
r1_routines a x = one_number x r1_reanalyzed

r2 : (k : ℕ) → Repaired R2 (changed_back R2 k)
unfolding editing analyzing
r2 k = record { refused = refl; marks = refl; second = refl; size = refl; output = refl }

r2_routines : (a : Back) → Routines R2 a → a.values.reanalyzed ≡ 1
unfolding editing
r2_routines a x = one_number x r2_reanalyzed

t1 : Analyzed T1 (fresh_back T1)
unfolding editing analyzing tabling
t1 = record { accepted = refl; marks = refl; violating = (refl, refl); iterations = refl }

t2 : (a : Back) → Gives faulty-pair (lent_pair_asked T2) a → PairAnswered T2 a
unfolding editing tabling
t2 a g = subst (PairAnswered T2) (sym g) (record { refused = refl; pair = refl })

t3 : (a : Back) → Gives faulty-pair (lent_pair_asked T3) a → PairAnswered T3 a
unfolding editing tabling
t3 a g = subst (PairAnswered T3) (sym g) (record { refused = refl; pair = refl })

t4 : (a : Back) → Gives faulty-pair (lent_pair_asked T4) a → PairAnswered T4 a
unfolding editing tabling
t4 a g = subst (PairAnswered T4) (sym g) (record { refused = refl; pair = refl })

e1 : (k : ℕ) → Repaired E1 (changed_back E1 k)
unfolding editing analyzing
e1 k = record { refused = refl; marks = refl; second = refl; size = refl; output = refl }

e1_routines : (a : Back) → Routines E1 a → a.values.reanalyzed ≡ 3
unfolding editing
e1_routines a x = one_number x e1_reanalyzed

e2 : (k : ℕ) → Repaired E2 (changed_back E2 k)
unfolding editing analyzing
e2 k = record { refused = refl; marks = refl; second = refl; size = refl; output = refl }

e3 : (k : ℕ) → Repaired E3 (changed_back E3 k)
unfolding editing analyzing
e3 k = record { refused = refl; marks = refl; second = refl; size = refl; output = refl }

e4 : (k : ℕ) → Repaired E4 (changed_back E4 k)
unfolding editing analyzing
e4 k = record { refused = refl; marks = refl; second = refl; size = refl; output = refl }

e5 : (k : ℕ) → Repaired E5 (changed_back E5 k)
unfolding editing analyzing
e5 k = record { refused = refl; marks = refl; second = refl; size = refl; output = refl }

e5_routines : (a : Back) → Routines E5 a → a.values.reanalyzed ≡ 3
unfolding editing
e5_routines a x = one_number x e5_reanalyzed

h1 : Analyzed H1 (fresh_back H1)
unfolding editing analyzing
h1 = record { accepted = refl; marks = refl; violating = (refl, refl); iterations = refl }

h2 : Analyzed H2 (fresh_back H2)
unfolding editing analyzing
h2 = record { accepted = refl; marks = refl; violating = (refl, refl); iterations = refl }

h3 : Analyzed H3 (fresh_back H3)
unfolding editing analyzing
h3 = record { accepted = refl; marks = refl; violating = (refl, refl); iterations = refl }

h4 : Analyzed H4 (fresh_back H4)
unfolding editing analyzing
h4 = record { accepted = refl; marks = refl; violating = (refl, refl); iterations = refl }

h5 : (k : ℕ) → Repaired H5 (changed_back H5 k)
unfolding editing analyzing
h5 k = record { refused = refl; marks = refl; second = refl; size = refl; output = refl }

h6 : (k : ℕ) → Repaired H6 (changed_back H6 k)
unfolding editing analyzing
h6 k = record { refused = refl; marks = refl; second = refl; size = refl; output = refl }

b1 : (a : Back) → Gives next_blocked (lent_cut_asked B1) a → CutAnswered B1 a
unfolding editing analyzing cutting
b1 a g = subst (CutAnswered B1) (sym g) (record { accepted = refl; found = refl; edge = refl })

b2 : (a : Back) → Gives next_blocked (lent_cut_asked B2) a → CutAnswered B2 a
unfolding editing analyzing cutting
b2 a g = subst (CutAnswered B2) (sym g) (record { accepted = refl; found = refl; edge = refl })

b3 : (a : Back) → Gives next_blocked (lent_cut_asked B3) a → CutAnswered B3 a
unfolding editing analyzing cutting
b3 a g = subst (CutAnswered B3) (sym g) (record { accepted = refl; found = refl; edge = refl })

b4 : (a : Back) → Gives next_blocked (lent_cut_asked B4) a → CutAnswered B4 a
unfolding editing analyzing cutting
b4 a g = subst (CutAnswered B4) (sym g) (record { accepted = refl; found = refl; edge = refl })

b5 : (a : Back) → Gives next_blocked (lent_cut_asked B5) a → CutAnswered B5 a
unfolding editing analyzing cutting
b5 a g = subst (CutAnswered B5) (sym g) (record { accepted = refl; found = refl; edge = refl })

b6 : (a : Back) → Gives next_blocked (lent_cut_asked B6) a → CutAnswered B6 a
unfolding editing analyzing cutting
b6 a g = subst (CutAnswered B6) (sym g) (record { accepted = refl; found = refl; edge = refl })

l1 : Tried L1 (limited_back L1)
unfolding editing analyzing
l1 = record { refused = refl; marks = refl; iterations = refl }

l2 : Tried L2 (limited_back L2)
unfolding editing analyzing
l2 = record { refused = refl; marks = refl; iterations = refl }

l3 : Tried L3 (limited_back L3)
unfolding editing analyzing
l3 = record { refused = refl; marks = refl; iterations = refl }

l4 : Tried L4 (limited_back L4)
unfolding editing analyzing
l4 = record { refused = refl; marks = refl; iterations = refl }

s1 : (k : ℕ) → Repaired S1 (changed_back S1 k)
unfolding editing analyzing
s1 k = record { refused = refl; marks = refl; second = refl; size = refl; output = refl }

s2 : (k : ℕ) → Repaired S2 (changed_back S2 k)
unfolding editing analyzing
s2 k = record { refused = refl; marks = refl; second = refl; size = refl; output = refl }

s3 : (k : ℕ) → Repaired S3 (changed_back S3 k)
unfolding editing analyzing
s3 k = record { refused = refl; marks = refl; second = refl; size = refl; output = refl }

s4 : Analyzed S4 (fresh_back S4)
unfolding editing analyzing tabling
s4 = record { accepted = refl; marks = refl; violating = (refl, refl); iterations = refl }

s5 : (a : Back) → Gives sizes (lent_asked S5) a → Told S5 a
unfolding editing
s5 a g = subst (Told S5) (sym g) (record { refused = refl; line = refl; room = refl })

s6 : (a : Back) → Gives sizes (lent_asked S6) a → Told S6 a
unfolding editing
s6 a g = subst (Told S6) (sym g) (record { refused = refl; line = refl; room = refl })

s7 : (a : Back) → Gives exchange_sizes (lent_asked S7) a → Told S7 a
unfolding editing
s7 a g = subst (Told S7) (sym g) (record { refused = refl; line = refl; room = refl })

s8 : (k : ℕ) → Repaired S8 (changed_back S8 k)
unfolding editing analyzing
s8 k = record { refused = refl; marks = refl; second = refl; size = refl; output = refl }

m1_over : MovedTo (bytes M1.frames) (over_back M1)
unfolding editing analyzing saving
m1_over = record { accepted = refl; size = refl; output = refl }

m1_back : MovedTo (old_marks_of M1) (back_back M1)
unfolding editing analyzing saving
m1_back = record { accepted = refl; size = refl; output = refl }

m2_over : MovedTo (bytes M2.frames) (over_back M2)
unfolding editing analyzing saving
m2_over = record { accepted = refl; size = refl; output = refl }

m2_back : MovedTo (old_marks_of M2) (back_back M2)
unfolding editing analyzing saving
m2_back = record { accepted = refl; size = refl; output = refl }

-- ---- every row of the table holds

-- the first of some rows, or a later one
at : {c d : Case} {cs : List Case} → Holds d → (Memᴰ c cs → Holds c) → Memᴰ c (d ∷ cs) → Holds c
at h rest (Memᴰ.head e) = subst Holds (sym e) h
at h rest (Memᴰ.tail m) = rest m

pub every_row : (c : Case) → Memᴰ c table → Holds c
every_row c =
    at (by_analysis P1 p1) (at (by_analysis P2 p2) (at (by_analysis P3 p3) (at (by_analysis P4 p4)
    (at (by_repairs P5 p5 p5_routines) (at (by_repairs P6 p6 p6_routines) (at (by_analysis P7 p7)
    (at (by_repairs P8 p8 p8_routines) (at (by_repairs P9 p9 (λ a x. tt)) (at (by_repairs P10 p10 (λ a x. tt))
    (at (by_repairs R1 r1 r1_routines) (at (by_repairs R2 r2 r2_routines) (at (by_analysis T1 t1) (at t2 (at t3 (at t4
    (at (by_repairs E1 e1 e1_routines) (at (by_repairs E2 e2 (λ a x. tt)) (at (by_repairs E3 e3 (λ a x. tt)) (at (by_repairs E4 e4 (λ a x. tt)) (at (by_repairs E5 e5 e5_routines)
    (at (by_analysis H1 h1) (at (by_analysis H2 h2) (at (by_analysis H3 h3) (at (by_analysis H4 h4)
    (at (by_repairs H5 h5 (λ a x. tt)) (at (by_repairs H6 h6 (λ a x. tt))
    (at b1 (at b2 (at b3 (at b4 (at b5 (at b6
    (at (by_limit L1 l1) (at (by_limit L2 l2) (at (by_limit L3 l3) (at (by_limit L4 l4)
    (at (by_repairs S1 s1 (λ a x. tt)) (at (by_repairs S2 s2 (λ a x. tt)) (at (by_repairs S3 s3 (λ a x. tt)) (at (by_analysis S4 s4)
    (at s5 (at s6 (at s7 (at (by_repairs S8 s8 (λ a x. tt)) (at (by_moves M1 m1_over m1_back) (at (by_moves M2 m2_over m2_back)
    (λ m. absurd (Memᴰ.not-nil m))))))))))))))))))))))))))))))))))))))))))))))))
