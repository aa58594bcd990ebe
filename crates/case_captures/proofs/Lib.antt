mod FitLaws
mod PreparedLaws
