-- The promise over any list of lines, from the law of each.
use Rattle.std.proofs.Common.{◌≡◌, ℕ, cond, ltb, List, [], ◌∷◌, ◌++◌, map, ℤ, pos, Some, None, Ok, Err, Option, Result, IfSome, IfNone, sym, refl, ap, ◌∙◌, subst, w32, SFits}
use Rattle.std.specs.List.{AllByRecursion}
use Rattle.std.proofs.lemmas.Bool.{le-ltb, lt-ltb}
use Rattle.faults.specs.Refusing.{left_unless}
use Rattle.faults.specs.declared.LineFault.{LineFault}
use Rattle.faults.specs.declared.LineFault.TheVariants.{FewWords}
use Rattle.faults.specs.declared.PageFault.TheVariants.{NoRoom}
use Rattle.faults.specs.declared.SheetFault.{SheetFault}
use Rattle.faults.specs.declared.SheetFault.TheVariants.{Page, Line}
use Rattle.lines.specs.Line.{most_numbers, frame_of, numbers, refusal}
use Rattle.sheets.specs.Answers.{Answer}
use Rattle.sheets.specs.Sheet.{natural}
use Rattle.sheets.specs.declared.call.Success.TheVariants.{Done}
use Rattle.sessions.specs.Frames.{known, frame_kind}
use Rattle.sessions.specs.Law.{SessionStands, SessionSound, modulus_of, WithoutSheet, in_force_framed, OpenedAs, RightlyFramed, FrameLaw}
use Rattle.sessions.specs.Promise.{Sent, Reply, sent_refusal, answer_lent, reply_to, session_after, replies_to, session_left, Standing, none_standing, unknowns_asked, opening_after, framed, standing_after, standing_from, Refused, RightlyReplied, LinesPromised}
use Rattle.sessions.specs.Session.{View, without_sheet, on_whole, on_weekday, answer_text, reply, list_of, new_session, unknowns_of, open_check, open_answer, frame_answer, frame_left, frame_text, answer_unless, line_answer, line_after, line_text_behind, output_length}
use Rattle.sessions.specs.declared.frame.Chosen.{Chosen}
use Rattle.sessions.specs.declared.frame.Frame.{Frame}
use Rattle.sessions.specs.declared.frame.Frame.TheVariants.{Open, Ask}
use Rattle.sessions.proofs.Fitting.{Fitting, roomy, new_fitting, frame_fits}
use Rattle.sessions.proofs.Lawful.{frame_law, line_law, numbers_fit}
use Rattle.sessions.proofs.OpeningsRight.{FullCells}
use Rattle.sessions.proofs.Replies.{enough_lent}

-- the session v is as the lines and their answers say
pub record Stands (v : View) (s : Standing) : Type 0 where
  pub fits : Fitting v
  pub equations : SessionStands v s.equations
  pub sound : SessionSound v
  pub opened : IfSome s.opening (λ ws. OpenedAs ws v)
  pub unopened : IfNone s.opening (WithoutSheet v)

no_unknowns : (v : View) → WithoutSheet v → unknowns_of v ≡ 0
no_unknowns (without_sheet w d) h = refl
no_unknowns (on_whole m d) h = absurd h
no_unknowns (on_weekday w m) h = absurd h

unknowns_told : (v : View) (o : Option (List ℤ)) → IfSome o (λ ws. OpenedAs ws v) → IfNone o (WithoutSheet v) → unknowns_of v ≡ unknowns_asked o
unknowns_told v (Some ws) h k = ap natural h.unknowns
unknowns_told v None h k = no_unknowns v k

-- what a sheet of the same kind and unknowns was opened as
opened_kept : (ws : List ℤ) (v u : View) → modulus_of u ≡ modulus_of v → unknowns_of u ≡ unknowns_of v → list_of u ≡ list_of v → OpenedAs ws v → OpenedAs ws u
opened_kept ws v u m n l h = record { kind = ap pos m ∙ h.kind; unknowns = ap pos n ∙ h.unknowns; list = ap pos l ∙ h.list; has_unknowns = λ z. h.has_unknowns (sym n ∙ z) }

some_kept : (o : Option (List ℤ)) (v u : View) → modulus_of u ≡ modulus_of v → unknowns_of u ≡ unknowns_of v → list_of u ≡ list_of v → IfSome o (λ ws. OpenedAs ws v) → IfSome o (λ ws. OpenedAs ws u)
some_kept (Some ws) v u m n l h = opened_kept ws v u m n l h
some_kept None v u m n l h = h

none_kept : (o : Option (List ℤ)) (v u : View) → (WithoutSheet v → WithoutSheet u) → IfNone o (WithoutSheet v) → IfNone o (WithoutSheet u)
none_kept (Some ws) v u n h = h
none_kept None v u n h = n h

full : (v : View) → Fitting v → FullCells v
full v f = record { whole = f.whole; weekday = f.weekday }

module _ (v : View) (s : Standing) (k : Stands v s) (ws : List ℤ) where
  -- what is then open
  pub record Opening (frame : Frame) (r : Answer) (after : View) : Type 0 where
    pub opened : IfSome (opening_after frame ws r s.opening) (λ xs. OpenedAs xs after)
    pub unopened : IfNone (opening_after frame ws r s.opening) (WithoutSheet after)

  frame_opening : (frame : Frame) (r : Answer) (text : List ℕ) (after : View) → FrameLaw v frame ws r text after → (frame ≡ Open → (success : _) → r ≡ Ok success → r ≡ Ok Done) → Opening frame r after
  frame_opening Open (Ok success) text after law plain =
      record { opened = law.opened (refl, plain refl success refl); unopened = tt }
  frame_opening Open (Err fault) text after law plain =
      let kept = law.kept (λ o. let z = o.1 in cc) in
      record {
        opened = some_kept s.opening v after kept.0 kept.1 kept.2 k.opened;
        unopened = none_kept s.opening v after (law.without (λ o. let z = o.1 in cc)) k.unopened;
      }
  frame_opening (Ask q) r text after law plain =
      let kept = law.kept (λ o. let z = o.0 in cc) in
      record {
        opened = some_kept s.opening v after kept.0 kept.1 kept.2 k.opened;
        unopened = none_kept s.opening v after (law.without (λ o. let z = o.0 in cc)) k.unopened;
      }

  open_plain : (r : Result Chosen SheetFault) (success : _) → open_answer r ≡ Ok success → open_answer r ≡ Ok Done
  open_plain (Ok kind) success e = refl
  open_plain (Err fault) success e = absurd cc

  plainly : (frame : Frame) → frame ≡ Open → (success : _) → frame_answer v frame ws ≡ Ok success → frame_answer v frame ws ≡ Ok Done
  plainly Open e success f = open_plain (open_check v ws) success f
  plainly (Ask q) e success f = absurd cc

  frame_stands : (frame : Frame) → AllByRecursion (SFits w32) ws → Stands (frame_left v frame ws) (framed frame ws (frame_answer v frame ws) s)
  frame_stands frame fit =
      let r = frame_answer v frame ws in
      let after = frame_left v frame ws in
      let law = frame_law v frame ws (roomy v k.fits) (λ _. full v k.fits) fit in
      let n = unknowns_told v s.opening k.opened k.unopened in
      let o = frame_opening frame r (frame_text v frame ws) after law (plainly frame) in
      record {
        fits = frame_fits v frame ws k.fits;
        equations = subst (λ (i : ℕ). SessionStands after (in_force_framed i frame ws r s.equations)) n (law.in_force s.equations k.equations);
        sound = law.sound k.sound;
        opened = o.opened;
        unopened = o.unopened;
      }

-- one line more
line_stands : (v : View) (s : Standing) → Stands v s → (x : Sent) → Stands (session_after v x) (standing_after (reply_to v x) s)
line_stands v s k x = by (sent_refusal x)
  where
    frame : Frame
    frame = frame_kind (frame_of x.line)

    read : (o : Option LineFault) → refusal known x.line ≡ o → Stands (left_unless o v (frame_left v frame (numbers x.line))) (left_unless o s (framed frame (numbers x.line) (answer_unless o v x.line) s))
    read (Some fault) e = k
    read None e = frame_stands v s k (numbers x.line) frame (numbers_fit x.line e)

    by : (o : Option SheetFault) → Stands (left_unless o v (line_after v x.line)) (left_unless o s (left_unless (refusal known x.line) s (framed frame (numbers x.line) (answer_lent o (line_answer v x.line)) s)))
    by (Some fault) = k
    by None = read (refusal known x.line) refl

-- a line for which too little is lent
refused : (v : View) (x : Sent) (fault : SheetFault) → sent_refusal x ≡ Some fault → Refused v (reply_to v x) fault
refused v x fault e = record {
  answer = ap (λ (o : Option SheetFault). answer_lent o (line_answer v x.line)) e;
  text = ap (λ (o : Option SheetFault). left_unless o [] (line_text_behind v x.line)) e;
  kept = ap (λ (o : Option SheetFault). left_unless o v (line_after v x.line)) e;
}

-- and one that its reader refuses
unread : (v : View) (x : Sent) (fault : LineFault) → sent_refusal x ≡ None →
    (line_answer v x.line ≡ Err (Line fault)) × (line_text_behind v x.line ≡ []) × (line_after v x.line ≡ v) → Refused v (reply_to v x) (Line fault)
unread v x fault e h = record {
  answer = ap (λ (o : Option SheetFault). answer_lent o (line_answer v x.line)) e ∙ h.0;
  text = ap (λ (o : Option SheetFault). left_unless o [] (line_text_behind v x.line)) e ∙ h.1;
  kept = ap (λ (o : Option SheetFault). left_unless o v (line_after v x.line)) e ∙ h.2;
}

-- what is written
written : (v : View) (x : Sent) → sent_refusal x ≡ None → (reply_to v x).written ≡ answer_text x.number (reply_to v x).answer ++ (reply_to v x).text
unfolding reply
written v x e =
    ap (λ (o : Option SheetFault). left_unless o [] (reply v x.number x.line)) e
    ∙ sym (ap (λ (o : Option SheetFault). answer_text x.number (answer_lent o (line_answer v x.line)) ++ left_unless o [] (line_text_behind v x.line)) e)

-- a line is rightly answered
replied : (v : View) (s : Standing) → Stands v s → (x : Sent) → RightlyReplied v s.equations (reply_to v x)
replied v s k x =
    let law = line_law v x.line (roomy v k.fits) (λ _. full v k.fits) in
    record {
      output = λ h. refused v x (Page NoRoom) (λ j. cond (lt-ltb x.out output_length h j) (Some (Page NoRoom)) (cond (ltb x.words most_numbers) (Some (Line FewWords)) None));
      words = λ h f. refused v x (Line FewWords) (λ j. cond (le-ltb x.out output_length h j) (Some (Page NoRoom)) (cond (lt-ltb x.words most_numbers f j) (Some (Line FewWords)) None));
      unwritten = λ fault e. ap (λ (o : Option SheetFault). left_unless o [] (reply v x.number x.line)) e;
      written = λ e. written v x e;
      unread = λ h f fault e. unread v x fault (enough_lent x.out x.words h f) (law.unread fault e);
      read = λ h f e.
          let n = enough_lent x.out x.words h f in
          subst (λ (o : Option SheetFault). RightlyFramed v s.equations (frame_kind (frame_of x.line)) (numbers x.line) (answer_lent o (line_answer v x.line)) (left_unless o [] (line_text_behind v x.line))) (sym n)
          ((law.read e).rightly s.equations k.equations);
    }

-- any list of lines
left_stands : (v : View) (s : Standing) → Stands v s → (sent : List Sent) → Stands (session_left v sent) (standing_from s (replies_to v sent))
left_stands v s k [] = k
left_stands v s k (x ∷ sent) = left_stands (session_after v x) (standing_after (reply_to v x) s) (line_stands v s k x) sent

each_replied : (v : View) (s : Standing) → Stands v s → (sent : List Sent) (before behind : List Reply) (r : Reply) → replies_to v sent ≡ before ++ (r ∷ behind) →
    RightlyReplied (session_left v (map (λ q. q.sent) before)) (standing_from s before).equations r
each_replied v s k [] [] behind r e = absurd cc
each_replied v s k [] (b ∷ before) behind r e = absurd cc
each_replied v s k (x ∷ sent) [] behind r e = let first : reply_to v x ≡ r = cc in subst (RightlyReplied v s.equations) first (replied v s k x)
each_replied v s k (x ∷ sent) (b ∷ before) behind r e =
    let first : reply_to v x ≡ b = cc in
    let rest : replies_to (session_after v x) sent ≡ before ++ (r ∷ behind) = cc in
    subst (λ (q : Reply). RightlyReplied (session_left (session_after v q.sent) (map (λ p. p.sent) before)) (standing_from (standing_after q s) before).equations r) first
    (each_replied (session_after v x) (standing_after (reply_to v x) s) (line_stands v s k x) sent before behind r rest)

new_stands : Stands new_session none_standing
new_stands = record { fits = new_fitting; equations = refl; sound = tt; opened = tt; unopened = tt }

pub lines_promised : LinesPromised
lines_promised sent =
    let k = left_stands new_session none_standing new_stands sent in
    record {
      opened = k.opened;
      unopened = k.unopened;
      general = k.equations;
      rightly = each_replied new_session none_standing new_stands sent;
      sound = k.sound;
    }
