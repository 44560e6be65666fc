-- Laws of the rulebook's choice by level.
pub mod Levels
