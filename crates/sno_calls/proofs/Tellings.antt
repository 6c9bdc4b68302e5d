-- How reports are told.
use Rattle.std.proofs.Common.{◌≡◌, ◌≤◌, ◌<◌, ◌++◌, inl, inr, Option, Some, None, codes, decimal, length, [], Bool, true, false, List, ℕ, refl, subst, ◌∙◌}
use Rattle.snobol.specs.Jobs.{Report}
use Rattle.std.proofs.lemmas.Bool.{cases_lt}
use Rattle.sno_listing.specs.Report.{IsReported}
use Rattle.sno_listing.specs.declared.report.Report.{Report as Listed}
use Rattle.sno_calls.specs.Calls.{Holds, IsTold, told_is, untold_is, IsListedIn, listed_is, cut_is, missing_is, asked}
use Rattle.sno_calls.specs.declared.Told.{Told}

-- The line was held whole and told, or it couldn't be held.
pub is_told : (failed : Bool) (report : Report) (said items old new : List ℕ) (told : Told) (status : ℕ) → status ≡ report.status
    → items ≡ said → (failed ≡ false → said ≡ report.line)
    → (failed ≡ false → (told.status ≡ status) × Holds old new told.told items)
    → (failed ≡ true → (told.status ≡ 6) × (told.told ≡ 0) × (new ≡ old)) → IsTold report old new told
is_told false report said items old new told status e i whole held untold =
    told_is ((held refl).0 ∙ e) (subst (λ x. Holds old new told.told x) (i ∙ whole refl) (held refl).1)
is_told true report said items old new told status e i whole held untold = untold_is (untold refl).0 (untold refl).1 (untold refl).2

-- A report was told that found room, or the beginning of one.
pub is_listed : (program : List ℕ) (number : ℕ) (wanted : Option ℕ) (found : Option Listed) (report : Listed)
    (out_old out_new line_old line_new : List ℕ) (told : Told)
    → IsReported program wanted found → wanted ≡ asked number → found ≡ Some report
    → Holds out_old out_new told.written report.text.items
    → (length report.text.items ≤ length out_old → told.status ≡ report.status)
    → (length report.text.items ≤ length out_old → Holds line_old line_new told.told [])
    → (length out_old < length report.text.items → told.status ≡ 7)
    → (length out_old < length report.text.items → Holds line_old line_new told.told (codes "snobol4-list: write fault\n"))
    → IsListedIn program number out_old out_new line_old line_new told
is_listed program number wanted found report out_old out_new line_old line_new told reported w f output fits no_line cut fault =
    let is : IsReported program (asked number) (Some report) =
    subst (λ x. IsReported program x (Some report)) w (subst (λ x. IsReported program wanted x) f reported) in
    elim (cases_lt (length out_old) (length report.text.items)) [
      | inl short ↦ cut_is report is short (cut short) output (fault short)
      | inr room ↦ listed_is report is room (fits room) output (no_line room)
    ]

-- There was no report.
pub is_missing : (program : List ℕ) (number : ℕ) (wanted : Option ℕ) (found : Option Listed)
    (out_old out_new line_old line_new said : List ℕ) (told : Told)
    → IsReported program wanted found → wanted ≡ asked number → found ≡ None → told.status ≡ 64
    → Holds out_old out_new told.written []
    → said ≡ codes "snobol4-list: no statement " ++ (decimal number ++ codes "\n") → Holds line_old line_new told.told said
    → IsListedIn program number out_old out_new line_old line_new told
is_missing program number wanted found out_old out_new line_old line_new said told reported w f status output s message =
    missing_is (subst (λ x. IsReported program x None) w (subst (λ x. IsReported program wanted x) f reported)) status output
    (subst (λ x. Holds line_old line_new told.told x) s message)
