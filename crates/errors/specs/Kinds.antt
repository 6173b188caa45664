-- The nineteen kinds of report, their numbers and their names.
use Rattle.std.specs.Prelude.{ℕ, List, [], ◌∷◌, codes}
use Rattle.errors.specs.declared.reports.ReportKind.{ReportKind}
use Rattle.errors.specs.declared.reports.ReportKind.TheVariants.{InvalidGlob, BannedPredicate, InvalidOrOperator, InvalidAndOperator, UnexpectedArgument, UnexpectedComma, InvalidString, ExpectedOpenParenthesis, ExpectedCloseParenthesis, InvalidEscapeCharacter, ExpectedExpr, ExprFoundBinaryOp, ExprFoundUnaryOp, ExpectedEndOfExpression, NoPackageMatch, NoGroupMatch, NoBinaryIdMatch, NoBinaryNameMatch, InvalidPlatformArgument}

abbrev pub kinds : List ReportKind
kinds =
    InvalidGlob ∷ BannedPredicate ∷ InvalidOrOperator ∷ InvalidAndOperator ∷ UnexpectedArgument ∷ UnexpectedComma
    ∷ InvalidString ∷ ExpectedOpenParenthesis ∷ ExpectedCloseParenthesis ∷ InvalidEscapeCharacter ∷ ExpectedExpr
    ∷ ExprFoundBinaryOp ∷ ExprFoundUnaryOp ∷ ExpectedEndOfExpression ∷ NoPackageMatch ∷ NoGroupMatch
    ∷ NoBinaryIdMatch ∷ NoBinaryNameMatch ∷ InvalidPlatformArgument ∷ []

-- the place of a kind in that list
abbrev pub number_of : ReportKind → ℕ
number_of InvalidGlob = 0
number_of BannedPredicate = 1
number_of InvalidOrOperator = 2
number_of InvalidAndOperator = 3
number_of UnexpectedArgument = 4
number_of UnexpectedComma = 5
number_of InvalidString = 6
number_of ExpectedOpenParenthesis = 7
number_of ExpectedCloseParenthesis = 8
number_of InvalidEscapeCharacter = 9
number_of ExpectedExpr = 10
number_of ExprFoundBinaryOp = 11
number_of ExprFoundUnaryOp = 12
number_of ExpectedEndOfExpression = 13
number_of NoPackageMatch = 14
number_of NoGroupMatch = 15
number_of NoBinaryIdMatch = 16
number_of NoBinaryNameMatch = 17
number_of InvalidPlatformArgument = 18

-- the name by which a kind is printed
abbrev pub name_of : ReportKind → List ℕ
name_of InvalidGlob = codes "InvalidGlob"
name_of BannedPredicate = codes "BannedPredicate"
name_of InvalidOrOperator = codes "InvalidOrOperator"
name_of InvalidAndOperator = codes "InvalidAndOperator"
name_of UnexpectedArgument = codes "UnexpectedArgument"
name_of UnexpectedComma = codes "UnexpectedComma"
name_of InvalidString = codes "InvalidString"
name_of ExpectedOpenParenthesis = codes "ExpectedOpenParenthesis"
name_of ExpectedCloseParenthesis = codes "ExpectedCloseParenthesis"
name_of InvalidEscapeCharacter = codes "InvalidEscapeCharacter"
name_of ExpectedExpr = codes "ExpectedExpr"
name_of ExprFoundBinaryOp = codes "ExprFoundBinaryOp"
name_of ExprFoundUnaryOp = codes "ExprFoundUnaryOp"
name_of ExpectedEndOfExpression = codes "ExpectedEndOfExpression"
name_of NoPackageMatch = codes "NoPackageMatch"
name_of NoGroupMatch = codes "NoGroupMatch"
name_of NoBinaryIdMatch = codes "NoBinaryIdMatch"
name_of NoBinaryNameMatch = codes "NoBinaryNameMatch"
name_of InvalidPlatformArgument = codes "InvalidPlatformArgument"
